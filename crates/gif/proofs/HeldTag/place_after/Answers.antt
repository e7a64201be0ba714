use Rattle.gif.specs.Tag.{place_after}
use Rattle.gif.specs.Inner.{place_after_many}
use Rattle.gif.proofs.HeldTag.place_after.Goals as goal

pub returns : goal.returns
unfolding place_after place_after_many
returns c = c.place_after_many.ensures

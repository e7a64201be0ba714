use Rattle.gif.specs.Tag.{descriptor_at}
use Rattle.gif.proofs.HeldTag.descriptor_at.Goals as goal

pub returns : goal.returns
unfolding descriptor_at
returns c = c.descriptor_in.ensures

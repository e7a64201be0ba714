use Rattle.gif.specs.Tag.{taken_of}
use Rattle.gif.proofs.HeldTag.taken.Goals as goal

pub returns : goal.returns
unfolding taken_of
returns c = rw c.quadwords.ensures

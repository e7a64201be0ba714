use Rattle.gif.proofs.RangeLaws.{tag_fits}
use Rattle.gif.proofs.descriptor.place_met.Goals as goal

pub data_met-requires : goal.data_met-requires
data_met-requires c = tag_fits _ (rw c.in-Some.is at c.requires.held)

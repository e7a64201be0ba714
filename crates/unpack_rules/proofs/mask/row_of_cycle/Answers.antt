use Rattle.unpack_rules.specs.Mask.{row_of_cycle}
use Rattle.unpack_rules.proofs.mask.row_of_cycle.Goals as goal

pub returns : goal.returns
unfolding row_of_cycle
returns c = rw (← c.place_in_cycle.ensures) c.min.ensures

use Rattle.fields.specs.Fields.{bits}
use Rattle.vif_codes.proofs.counting.nop_in.Goals as goal

pub returns-in-Nothing : goal.returns-in-Nothing
unfolding bits
returns-in-Nothing c = rw c.in-Nothing.is

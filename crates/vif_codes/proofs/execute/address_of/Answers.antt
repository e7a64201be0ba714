use Rattle.vif_codes.specs.Execute.{address_of}
use Rattle.fields.specs.Fields.{if}
use native.Mathlib.Omega.{arith}
use Rattle.vif_codes.proofs.execute.address_of.Goals as goal

pub returns-then-u : goal.returns-then-u
unfolding address_of if
returns-then-u c = rw c.if-u.true (omega arith)

pub returns-else-u : goal.returns-else-u
unfolding address_of if
returns-else-u c = rw c.if-u.false

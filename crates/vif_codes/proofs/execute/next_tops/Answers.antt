use Rattle.vif_codes.specs.Execute.{next_tops}
use Rattle.fields.specs.Fields.{if}
use native.Mathlib.Omega.{arith}
use Rattle.vif_codes.proofs.execute.next_tops.Goals as goal

pub returns-then-dbf : goal.returns-then-dbf
unfolding next_tops if
returns-then-dbf c = rw c.if-dbf.true (omega arith)

pub returns-else-dbf : goal.returns-else-dbf
unfolding next_tops if
returns-else-dbf c = rw c.if-dbf.false

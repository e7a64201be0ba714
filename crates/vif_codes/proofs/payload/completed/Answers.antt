use Rattle.vif_codes.specs.Payload.{completes}
use Rattle.fields.specs.Fields.{if}
use borrow.Author.Tests.{eq-eqb, ne_eqb}
use Rattle.vif_codes.proofs.payload.completed.Goals as goal

pub returns-then-due-eq1 : goal.returns-then-due-eq1
unfolding completes if
returns-then-due-eq1 c = rw (eq-eqb _ _ c.if-due-eq1.true)

pub returns-else-due-eq1 : goal.returns-else-due-eq1
unfolding completes if
returns-else-due-eq1 c = rw (ne_eqb _ _ c.if-due-eq1.false)

use Rattle.vif_codes.specs.Payload.{or_nothing}
use Rattle.fields.specs.Fields.{if}
use borrow.Author.Tests.{eq-eqb, ne_eqb}
use Rattle.vif_codes.proofs.payload.or_nothing.Goals as goal

pub returns-then-due-eq1 : goal.returns-then-due-eq1
unfolding or_nothing if
returns-then-due-eq1 c = rw (eq-eqb _ _ c.if-due-eq1.true)

pub returns-else-due-eq1 : goal.returns-else-due-eq1
unfolding or_nothing if
returns-else-due-eq1 c = rw (ne_eqb _ _ c.if-due-eq1.false)

use Rattle.vif_codes.specs.Execute.{set_mode}
use Rattle.fields.specs.Fields.{if}
use borrow.Author.Tests.{eq-eqb, ne_eqb}
use Rattle.vif_codes.proofs.execute.set_mode.Goals as goal

pub returns-then-mode-eq3 : goal.returns-then-mode-eq3
unfolding set_mode if
returns-then-mode-eq3 c = rw (eq-eqb _ _ c.if-mode-eq3.true) c.answered.ensures

pub returns-else-mode-eq3 : goal.returns-else-mode-eq3
unfolding set_mode if
returns-else-mode-eq3 c = rw (ne_eqb _ _ c.if-mode-eq3.false, ← c.with_mode.ensures) c.done.ensures

use Rattle.gif.specs.Tag.{nreg_of}
use Rattle.fields.specs.Fields.{if}
use borrow.Author.Tests.{eq-eqb, ne_eqb}
use Rattle.gif.proofs.tag.nreg_of.Goals as goal

pub returns-then-nreg-eq0 : goal.returns-then-nreg-eq0
unfolding nreg_of if
returns-then-nreg-eq0 c = simp (eq-eqb _ _ c.if-nreg-eq0.true)

pub returns-else-nreg-eq0 : goal.returns-else-nreg-eq0
unfolding nreg_of if
returns-else-nreg-eq0 c = simp (ne_eqb _ _ c.if-nreg-eq0.false)

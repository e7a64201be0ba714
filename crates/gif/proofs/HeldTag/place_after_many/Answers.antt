use Rattle.gif.specs.Inner.{place_after_many}
use Rattle.fields.specs.Fields.{if}
use borrow.Author.Tests.{eq-eqb, ne_eqb}
use Rattle.gif.proofs.HeldTag.place_after_many.Goals as goal

pub returns-then-self-n : goal.returns-then-self-n
unfolding place_after_many if
returns-then-self-n c = simp (eq-eqb _ _ c.if-self-n.true)

pub returns-else-self-n : goal.returns-else-self-n
unfolding place_after_many if
returns-else-self-n c = simp (ne_eqb _ _ c.if-self-n.false)

use borrow.Author.Tests.{lt-ltb, le-ltb}
use Rattle.fields.specs.Fields.{if}
use Rattle.compare.specs.Inner.{found_after}
use Rattle.compare.proofs.Found.after.Goals as goal

pub returns-then-differs : goal.returns-then-differs
unfolding found_after if
returns-then-differs c = simp c.if-differs.true

pub returns-then-self-i : goal.returns-then-self-i
unfolding found_after if
returns-then-self-i c = simp (c.if-differs.false, lt-ltb _ _ c.if-self-i.true)

pub returns-else-self-i : goal.returns-else-self-i
unfolding found_after if
returns-else-self-i c = simp (c.if-differs.false, le-ltb _ _ c.if-self-i.false)

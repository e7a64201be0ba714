use borrow.Author.Tests.{lt-ltb, le-ltb}
use Rattle.fields.specs.Fields.{if}
use Rattle.sheet.specs.Sums.{within}
use Rattle.sheet.proofs.totals.within.Goals as goal

pub returns-then-t : goal.returns-then-t
unfolding within if
returns-then-t c = rw (lt-ltb _ _ c.if-t.true) (rw c.into.ensures)

pub returns : goal.returns
unfolding within if
returns c = rw (le-ltb _ _ c.if-t.false)

use Rattle.wire.specs.Words.{if, next_place, emitted}
use borrow.Author.Tests.{lt-ltb, le-ltb}
use Rattle.wire.proofs.put.Goals as goal

pub returns-then-at-gt65532 : goal.returns-then-at-gt65532
unfolding next_place emitted if
returns-then-at-gt65532 c = rw (lt-ltb _ _ c.if-at-gt65532.true, c.put_word.ensures)

pub returns : goal.returns
unfolding next_place emitted if
returns c = rw (le-ltb _ _ c.if-at-gt65532.false, c.put_word-2.ensures)

use borrow.Author.Tests.{lt-ltb, le-ltb}
use Rattle.fields.specs.Fields.{if}
use Rattle.supplier.specs.Inner.{first_difference}
use Rattle.supplier.proofs.judging.first_difference.Goals as goal

pub returns-then-quadword-lt-QUADWORDS : goal.returns-then-quadword-lt-QUADWORDS
unfolding first_difference if
returns-then-quadword-lt-QUADWORDS c = rw (lt-ltb _ _ c.if-quadword-lt-QUADWORDS.true)

pub returns-then-instruction-lt-INSTRUCTIONS : goal.returns-then-instruction-lt-INSTRUCTIONS
unfolding first_difference if
returns-then-instruction-lt-INSTRUCTIONS c = rw (le-ltb _ _ c.if-quadword-lt-QUADWORDS.false, lt-ltb _ _ c.if-instruction-lt-INSTRUCTIONS.true)

pub returns : goal.returns
unfolding first_difference if
returns c =
    rw (le-ltb _ _ c.if-quadword-lt-QUADWORDS.false, le-ltb _ _ c.if-instruction-lt-INSTRUCTIONS.false) c.entries_verdict.ensures

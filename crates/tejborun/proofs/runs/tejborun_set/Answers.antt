use Rattle.tejborun.proofs.RunLaws.{set_short, set_done}
use Rattle.std.proofs.Common.{refl}
use Rattle.tejborun.proofs.runs.tejborun_set.Goals as goal

pub returns-then-block-ne-STATE_WORDS : goal.returns-then-block-ne-STATE_WORDS
returns-then-block-ne-STATE_WORDS c = set_short _ _ _ _ c.if-block-ne-STATE_WORDS.true

pub returns-in-Ok : goal.returns-in-Ok
returns-in-Ok c = set_done _ _ _ _ c.if-block-ne-STATE_WORDS.false c.set_in_block.ensures (rw c.in-Ok.is refl)

pub returns-in-Err : goal.returns-in-Err
returns-in-Err c = set_done _ _ _ _ c.if-block-ne-STATE_WORDS.false c.set_in_block.ensures (rw c.in-Err.is c.number.ensures)

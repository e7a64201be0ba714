use Rattle.tejborun.proofs.RunLaws.{start_short, start_high, start_done, start_fails}
use Rattle.tejborun.proofs.runs.tejborun_start.Goals as goal

pub returns-then-block-ne-STATE_WORDS : goal.returns-then-block-ne-STATE_WORDS
returns-then-block-ne-STATE_WORDS c = start_short _ _ _ _ c.if-block-ne-STATE_WORDS.true

pub returns-then-tte-gt1 : goal.returns-then-tte-gt1
returns-then-tte-gt1 c = rw c.number.ensures (start_high _ _ _ _ c.if-block-ne-STATE_WORDS.false c.if-tte-gt1.true)

pub returns-in-Ok : goal.returns-in-Ok
returns-in-Ok c =
    start_done _ _ _ _ c.if-block-ne-STATE_WORDS.false c.if-tte-gt1.false c.state_given-given.ensures c.start.ensures c.in-Ok.is c.put_state.ensures

pub returns-in-Err : goal.returns-in-Err
returns-in-Err c =
    rw c.number-in-Err.ensures
    (start_fails _ _ _ _ c.if-block-ne-STATE_WORDS.false c.if-tte-gt1.false c.state_given-given.ensures c.start.ensures c.in-Err.is)

use Rattle.tejborun.proofs.RunLaws.{reset_short, reset_done}
use Rattle.tejborun.proofs.runs.tejborun_reset.Goals as goal

pub returns-then-block-ne-STATE_WORDS : goal.returns-then-block-ne-STATE_WORDS
returns-then-block-ne-STATE_WORDS c = reset_short _ c.if-block-ne-STATE_WORDS.true

pub returns : goal.returns
returns c = reset_done _ c.if-block-ne-STATE_WORDS.false c.reset.ensures c.put_state.ensures

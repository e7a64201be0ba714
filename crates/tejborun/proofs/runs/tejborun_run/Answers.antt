use Rattle.tejborun.proofs.RunLaws.{run_short, run_done}
use Rattle.tejborun.proofs.runs.tejborun_run.Goals as goal

pub returns-then-block-ne-STATE_WORDS : goal.returns-then-block-ne-STATE_WORDS
returns-then-block-ne-STATE_WORDS c = run_short _ _ _ _ _ c.then-block-ne-STATE_WORDS.either

pub returns : goal.returns
returns c =
    run_done _ _ _ _ _ c.if-block-ne-STATE_WORDS.false c.if-res-lt12.false c.state_given-given.ensures _ c.run-r.ensures c.put_back.ensures c.put_counts.ensures c.answer_number.ensures

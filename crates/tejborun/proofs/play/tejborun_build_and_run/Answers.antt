use Rattle.tejborun.proofs.PlayLaws.{play_short, play_done}
use Rattle.tejborun.proofs.play.tejborun_build_and_run.Goals as goal

pub returns-then-block-ne-STATE_WORDS : goal.returns-then-block-ne-STATE_WORDS
returns-then-block-ne-STATE_WORDS c = play_short _ _ _ _ _ _ _ c.then-block-ne-STATE_WORDS.either

pub returns : goal.returns
returns c =
    play_done _ _ _ _ _ _ _ c.if-block-ne-STATE_WORDS.false c.if-res-lt13.false c.state_given-given.ensures c.build_and_run-r.ensures c.begun.ensures c.put_back.ensures
    c.play_offset.ensures c.put_before.ensures c.play_number.ensures

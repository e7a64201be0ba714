use Rattle.tejborun.proofs.ReasonLaws.{why_short, why_done}
use Rattle.tejborun.proofs.reasons.tejborun_why.Goals as goal

pub returns-then-block-ne-STATE_WORDS : goal.returns-then-block-ne-STATE_WORDS
returns-then-block-ne-STATE_WORDS c = why_short _ _ _ _ c.then-block-ne-STATE_WORDS.either

pub returns : goal.returns
returns c =
    why_done _ _ _ _ c.if-block-ne-STATE_WORDS.false c.if-res-lt4.false c.state_given-given.ensures c.why-why.ensures c.reason_numbers.ensures c.put.ensures
    c.reason_kind.ensures

use Rattle.conformance.proofs.AnswerLaws.{built_placed}
use Rattle.conformance.proofs.play.build_at.Goals as goal

pub returns : goal.returns
returns c =
    built_placed _ _ _ c.place-at.ensures.0 c.build.ensures

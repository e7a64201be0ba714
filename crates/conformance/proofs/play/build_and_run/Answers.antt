use Rattle.std.proofs.Common.{◌∙◌}
use Rattle.conformance.proofs.AnswerLaws.{play_is}
use Rattle.conformance.proofs.play.build_and_run.Goals as goal

pub returns-in-Err : goal.returns-in-Err
returns-in-Err c = rw c.no_counts.ensures (c.begin.ensures.refused _ c.in-Err.is _)

pub returns-in-Ok : goal.returns-in-Ok
returns-in-Ok c = play_is _ _ c.run-r.ensures _ c.map_err.ensures.cases ∙ c.begin.ensures.begun _ c.in-Ok.is _

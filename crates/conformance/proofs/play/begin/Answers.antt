use Rattle.conformance.proofs.AnswerLaws.{begins_lengths, begins_start, begins_build, begins_run}
use Rattle.conformance.proofs.play.begin.Goals as goal

pub returns-in_err-test_lengths : goal.returns-in_err-test_lengths
returns-in_err-test_lengths c = begins_lengths _ _ _ _ _ _ c.in_err-test_lengths.ensures c.from_residual.ensures.1

pub returns-in_err-begun : goal.returns-in_err-begun
returns-in_err-begun c =
    begins_start _ _ _ _ _ c.in_ok-test_lengths.ensures _ c.in_err-begun.ensures c.from_residual-in_err-begun.ensures.1

pub returns-in_err-build_at : goal.returns-in_err-build_at
returns-in_err-build_at c =
    begins_build _ _ _ _ _ c.in_ok-test_lengths.ensures c.in_ok-begun.ensures _ c.in_err-build_at.ensures c.from_residual-in_err-build_at.ensures.1

pub returns : goal.returns
returns c = begins_run _ _ _ _ _ c.in_ok-test_lengths.ensures c.in_ok-begun.ensures c.in_ok-build_at.ensures

use Rattle.std.proofs.lemmas.Result.{err_from_is_err_and}
use Rattle.sheet.proofs.TotalsLaws.{steps_whole, steps_refused}
use Rattle.sheet.proofs.totals.steps.Goals as goal

pub returns-in_err-measure : goal.returns-in_err-measure
returns-in_err-measure c =
    let p = err_from_is_err_and c.from_residual.result c.from_residual.ensures.1 in
    rw (p.1, p.2) (steps_refused _ c.in_err-measure.ensures)

pub returns : goal.returns
returns c = steps_whole _ c.in_ok-measure.ensures

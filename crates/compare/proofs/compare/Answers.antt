use Rattle.std.proofs.lemmas.Result.{err_from_is_err_and}
use Rattle.compare.proofs.CompareLaws.{boards_refused, boards_compared}
use Rattle.compare.proofs.compare.Goals as goal

pub returns-in_err-test_boards : goal.returns-in_err-test_boards
returns-in_err-test_boards c =
    let p = err_from_is_err_and c.from_residual.result c.from_residual.ensures.1 in
    rw (p.1, p.2) (boards_refused _ _ _ _ c.in_err-test_boards.ensures)

pub returns : goal.returns
returns c = boards_compared _ _ _ c.in_ok-test_boards.ensures c.compare_asked.ensures

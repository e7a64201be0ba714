use Rattle.std.proofs.lemmas.Result.{err_from_is_err_and}
use Rattle.sheet.proofs.ActedLaws.{items_whole, acted_refused, acted_tested, acted_whole, acted_fits}
use Rattle.sheet.proofs.acts.act_on.Goals as goal

pub returns-in_err-sums : goal.returns-in_err-sums
returns-in_err-sums g c =
    let p = err_from_is_err_and c.from_residual.result c.from_residual.ensures.1 in
    rw (p.1, p.2) (acted_refused g.A.Act.act g.A.TestedAct.refusal _ _ c.in_err-sums.ensures)

pub returns-in_err-test : goal.returns-in_err-test
returns-in_err-test g c =
    let p = err_from_is_err_and c.from_residual-in_err-test.result c.from_residual-in_err-test.ensures.1 in
    rw (p.1, p.2) (acted_tested g.A.Act.act g.A.TestedAct.refusal _ _ c.in_ok-sums.ensures _ c.in_err-test.ensures)

pub act_sheet-requires : goal.act_sheet-requires
act_sheet-requires g c = acted_fits g.A.TestedAct.refusal g.met.A.TestedAct.fits _ _ c.in_ok-sums.ensures c.in_ok-test.ensures

pub returns : goal.returns
returns g c =
    let q = c.in_ok-sums.ensures in
    acted_whole g.A.Act.act g.A.TestedAct.refusal _ _ q c.in_ok-test.ensures (rw (← items_whole _ q) c.act_sheet.ensures)

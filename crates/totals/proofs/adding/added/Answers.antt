use Rattle.totals.proofs.AddLaws.{sums_none, sums_none_qwc, sums_some}
use Rattle.totals.proofs.adding.added.Goals as goal

pub returns-in_err-checked_add : goal.returns-in_err-checked_add
returns-in_err-checked_add c = sums_none _ _ 0 c.from_residual.ensures c.in_err-checked_add.ensures

pub returns-in_err-checked_add-2 : goal.returns-in_err-checked_add-2
returns-in_err-checked_add-2 c = sums_none _ _ 1 c.from_residual-in_err-checked_add-2.ensures c.in_err-checked_add-2.ensures

pub returns-in_err-checked_add-3 : goal.returns-in_err-checked_add-3
returns-in_err-checked_add-3 c = sums_none _ _ 2 c.from_residual-in_err-checked_add-3.ensures c.in_err-checked_add-3.ensures

pub returns-in_err-added_qwc : goal.returns-in_err-added_qwc
returns-in_err-added_qwc c = sums_none_qwc _ _ c.from_residual-in_err-added_qwc.ensures c.in_err-added_qwc.was c.added_qwc.ensures

pub returns : goal.returns
returns c = sums_some _ _ c.in_ok-checked_add.ensures c.in_ok-checked_add-2.ensures c.in_ok-checked_add-3.ensures c.in_ok-added_qwc.was c.added_qwc.ensures

use Rattle.totals.proofs.AddLaws.{qwc_none, qwc_some}
use Rattle.totals.proofs.adding.added_qwc.Goals as goal

pub returns-in_err-checked_add : goal.returns-in_err-checked_add
returns-in_err-checked_add c = qwc_none _ _ 0 c.from_residual.ensures (c.in_err-checked_add.ensures)

pub returns-in_err-checked_add-2 : goal.returns-in_err-checked_add-2
returns-in_err-checked_add-2 c = qwc_none _ _ 1 c.from_residual-in_err-checked_add-2.ensures (c.in_err-checked_add-2.ensures)

pub returns-in_err-checked_add-3 : goal.returns-in_err-checked_add-3
returns-in_err-checked_add-3 c = qwc_none _ _ 2 c.from_residual-in_err-checked_add-3.ensures (c.in_err-checked_add-3.ensures)

pub returns-in_err-checked_add-4 : goal.returns-in_err-checked_add-4
returns-in_err-checked_add-4 c = qwc_none _ _ 3 c.from_residual-in_err-checked_add-4.ensures (c.in_err-checked_add-4.ensures)

pub returns-in_err-checked_add-5 : goal.returns-in_err-checked_add-5
returns-in_err-checked_add-5 c = qwc_none _ _ 4 c.from_residual-in_err-checked_add-5.ensures (c.in_err-checked_add-5.ensures)

pub returns-in_err-checked_add-6 : goal.returns-in_err-checked_add-6
returns-in_err-checked_add-6 c = qwc_none _ _ 5 c.from_residual-in_err-checked_add-6.ensures (c.in_err-checked_add-6.ensures)

pub returns-in_err-checked_add-7 : goal.returns-in_err-checked_add-7
returns-in_err-checked_add-7 c = qwc_none _ _ 6 c.from_residual-in_err-checked_add-7.ensures (c.in_err-checked_add-7.ensures)

pub returns-in_err-checked_add-8 : goal.returns-in_err-checked_add-8
returns-in_err-checked_add-8 c = qwc_none _ _ 7 c.from_residual-in_err-checked_add-8.ensures (c.in_err-checked_add-8.ensures)

pub returns : goal.returns
returns c = qwc_some _ _ (c.in_ok-checked_add.ensures) (c.in_ok-checked_add-2.ensures) (c.in_ok-checked_add-3.ensures) (c.in_ok-checked_add-4.ensures) (c.in_ok-checked_add-5.ensures) (c.in_ok-checked_add-6.ensures) (c.in_ok-checked_add-7.ensures) (c.in_ok-checked_add-8.ensures)

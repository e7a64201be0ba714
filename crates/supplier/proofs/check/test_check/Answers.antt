use Rattle.supplier.proofs.CheckLaws.{tested_entry, tested_sheet}
use Rattle.supplier.proofs.check.test_check.Goals as goal

pub returns-in_err-test_entry : goal.returns-in_err-test_entry
returns-in_err-test_entry c = tested_entry _ _ _ _ (rw c.started.ensures at c.in_err-test_entry.ensures) c.from_residual.ensures.1

pub returns : goal.returns
returns c = tested_sheet _ _ _ (rw c.started.ensures at c.in_ok-test_entry.ensures) _ c.steps.ensures

use Rattle.supplier.proofs.CheckLaws.{check_ran_lem}
use Rattle.supplier.proofs.check.check_chain.Goals as goal

pub check_valid-requires : goal.check_valid-requires
check_valid-requires c = c.test_check.ensures.passed _ c.in-Ok.is

pub returns-in-Ok : goal.returns-in-Ok
returns-in-Ok c = check_ran_lem (c.test_check.ensures.passed _ c.in-Ok.is) _ c.check_valid.ensures

pub returns-in-Err : goal.returns-in-Err
returns-in-Err c = rw c.no_counts.ensures (c.test_check.ensures.refused _ c.in-Err.is _)

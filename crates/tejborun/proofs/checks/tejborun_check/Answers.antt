use Rattle.tejborun.proofs.CheckLaws.{check_short, check_told}
use Rattle.tejborun.proofs.checks.tejborun_check.Goals as goal

pub returns-then-res-lt15 : goal.returns-then-res-lt15
returns-then-res-lt15 c = check_short _ _ _ _ _ c.if-res-lt15.true

pub returns : goal.returns
returns c =
    check_told _ _ _ _ _ c.if-res-lt15.false c.check_chain-r.ensures c.number-number.ensures c.offset-offset.ensures c.put_before.ensures c.kind.ensures

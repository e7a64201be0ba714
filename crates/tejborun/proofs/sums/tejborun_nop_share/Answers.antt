use Rattle.tejborun.proofs.TotalLaws.{too_short, enough, share_short, share_done}
use Rattle.tejborun.proofs.sums.tejborun_nop_share.Goals as goal

pub returns-then-sums-ne-TOTALS : goal.returns-then-sums-ne-TOTALS
returns-then-sums-ne-TOTALS c = share_short _ _ (too_short _ _ _ c.then-sums-ne-TOTALS.either)

pub returns : goal.returns
returns c =
    share_done _ _ (enough _ _ 2 c.if-sums-ne-TOTALS.false c.if-res-lt2.false) c.totals_from.ensures c.nop_share-r.ensures c.put.ensures

use Rattle.tejborun.proofs.TotalLaws.{too_short, enough, add_short, add_done, add_refused}
use Rattle.tejborun.proofs.sums.tejborun_add_totals.Goals as goal

pub returns-then-sums-ne-TOTALS : goal.returns-then-sums-ne-TOTALS
returns-then-sums-ne-TOTALS c = add_short _ _ (too_short _ _ _ c.then-sums-ne-TOTALS.either)

pub returns-in-Ok : goal.returns-in-Ok
returns-in-Ok c =
    let e = enough _ _ 12 c.if-sums-ne-TOTALS.false c.if-counts-lt-COUNTS.false in
    add_done _ _ c.if-sums-ne-TOTALS.false e c.totals_from.ensures c.counts_from.ensures c.add_totals.ensures c.in-Ok.is (rw c.numbers_of.ensures at c.put.ensures)

pub returns-in-Err : goal.returns-in-Err
returns-in-Err c =
    let e = enough _ _ 12 c.if-sums-ne-TOTALS.false c.if-counts-lt-COUNTS.false in
    rw c.number.ensures (add_refused _ _ c.if-sums-ne-TOTALS.false e c.totals_from.ensures c.counts_from.ensures c.add_totals.ensures c.in-Err.is)

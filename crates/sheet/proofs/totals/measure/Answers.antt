use Rattle.std.proofs.lemmas.Result.{err_from_is_err_and}
use Rattle.sheet.proofs.ReaderLaws.{passed, failed}
use Rattle.sheet.proofs.HeaderLaws.{starts_inside}
use Rattle.sheet.proofs.TotalsLaws.{too_long, edition_refused, measured_second, measured_first}
use Rattle.sheet.proofs.totals.measure.Goals as goal
use Rattle.sheet.proofs.totals.measure.Goals.{then-starts_second+in_ok-test_edition, else-starts_second}

pub returns-then-sheet-gt-LONGEST : goal.returns-then-sheet-gt-LONGEST
returns-then-sheet-gt-LONGEST c = rw c.into.ensures (too_long _ c.if-sheet-gt-LONGEST.true)

pub test_edition-requires : goal.test_edition-requires
test_edition-requires c = starts_inside _ (passed c.starts_second.ensures c.if-starts_second.true)

pub returns-in_err-test_edition : goal.returns-in_err-test_edition
returns-in_err-test_edition c =
    let p = err_from_is_err_and c.from_residual.result c.from_residual.ensures.1 in
    rw (p.1, p.2) (edition_refused _ c.if-sheet-gt-LONGEST.false _ (passed c.starts_second.ensures c.if-starts_second.true) c.in_err-test_edition.ensures)

pub returns : goal.returns
returns c =
    elim c.if-starts_second.branch [
      | then-starts_second+in_ok-test_edition w ↦
          measured_second _ c.if-sheet-gt-LONGEST.false c.first_item.ensures c.measure_items.ensures (passed c.starts_second.ensures w.if-starts_second.true) w.in_ok-test_edition.ensures
      | else-starts_second w ↦ measured_first _ c.if-sheet-gt-LONGEST.false c.first_item.ensures c.measure_items.ensures (failed c.starts_second.ensures w.if-starts_second.false)
    ]

use Rattle.std.proofs.Common.{arith}
use Rattle.std.proofs.lemmas.Result.{err_from_is_err_and}
use Rattle.sheet.proofs.ReaderLaws.{passed, failed, kind_found, kind_missed, header_cut, mark_missed, kind_wrong_at, count_missed, address_missed, body_cut, pad_missed, record_whole}
use Rattle.sheet.proofs.reader.record_at.Goals as goal

pub returns-then-sheet-at-lt6 : goal.returns-then-sheet-at-lt6
returns-then-sheet-at-lt6 c = header_cut _ _ c.requires c.if-sheet-at-lt6.true

pub returns-then-not-has_mark : goal.returns-then-not-has_mark
returns-then-not-has_mark c = mark_missed _ _ c.requires c.if-sheet-at-lt6.false (failed c.has_mark.ensures c.if-not-has_mark.true)

pub returns-in_err-kind : goal.returns-in_err-kind
returns-in_err-kind c =
    let k = kind_missed c.kind_of.ensures c.byte_at.ensures.0 c.in_err-kind.was in
    let p = err_from_is_err_and c.from_residual.result c.from_residual.ensures.1 in
    rw (p.1, p.2, k.1) (kind_wrong_at _ _ c.requires c.if-sheet-at-lt6.false (passed c.has_mark.ensures c.if-not-has_mark.false) k.0)

pub returns-then-not-count_fits : goal.returns-then-not-count_fits
returns-then-not-count_fits c =
    count_missed _ _ c.requires c.if-sheet-at-lt6.false (passed c.has_mark.ensures c.if-not-has_mark.false) (kind_found c.kind_of.ensures c.byte_at.ensures.0 c.in_ok-kind.was)
    c.count_at-count.ensures c.address_at-address.ensures (failed c.count_fits.ensures c.if-not-count_fits.true)

pub returns-then-not-address_fits : goal.returns-then-not-address_fits
returns-then-not-address_fits c =
    address_missed _ _ c.requires c.if-sheet-at-lt6.false (passed c.has_mark.ensures c.if-not-has_mark.false) (kind_found c.kind_of.ensures c.byte_at.ensures.0 c.in_ok-kind.was)
    c.count_at-count.ensures c.address_at-address.ensures (passed c.count_fits.ensures c.if-not-count_fits.false) (failed c.address_fits.ensures c.if-not-address_fits.true)

pub returns-then-sheet-next : goal.returns-then-sheet-next
returns-then-sheet-next c =
    body_cut _ _ c.requires c.if-sheet-at-lt6.false (passed c.has_mark.ensures c.if-not-has_mark.false) (kind_found c.kind_of.ensures c.byte_at.ensures.0 c.in_ok-kind.was)
    c.count_at-count.ensures c.address_at-address.ensures (passed c.count_fits.ensures c.if-not-count_fits.false) (passed c.address_fits.ensures c.if-not-address_fits.false)
    (omega arith) c.if-sheet-next.true

pub returns-then-not-pads_fit : goal.returns-then-not-pads_fit
returns-then-not-pads_fit c =
    pad_missed _ _ c.requires c.if-sheet-at-lt6.false (passed c.has_mark.ensures c.if-not-has_mark.false) (kind_found c.kind_of.ensures c.byte_at.ensures.0 c.in_ok-kind.was)
    c.count_at-count.ensures c.address_at-address.ensures (passed c.count_fits.ensures c.if-not-count_fits.false) (passed c.address_fits.ensures c.if-not-address_fits.false)
    (omega arith) c.if-sheet-next.false (failed c.pads_fit.ensures c.if-not-pads_fit.true)

pub returns : goal.returns
returns c =
    record_whole _ _ c.requires c.if-sheet-at-lt6.false (passed c.has_mark.ensures c.if-not-has_mark.false) (kind_found c.kind_of.ensures c.byte_at.ensures.0 c.in_ok-kind.was)
    c.count_at-count.ensures c.address_at-address.ensures (passed c.count_fits.ensures c.if-not-count_fits.false) (passed c.address_fits.ensures c.if-not-address_fits.false)
    (omega arith) c.if-sheet-next.false (passed c.pads_fit.ensures c.if-not-pads_fit.false)

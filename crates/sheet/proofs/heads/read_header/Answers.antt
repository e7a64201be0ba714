use Rattle.std.proofs.Common.{◌∙◌}
use Rattle.std.proofs.lemmas.Result.{err_from_is_err_and}
use Rattle.sheet.proofs.ReaderLaws.{passed, failed}
use Rattle.sheet.proofs.HeaderLaws.{single_read, opens_inside, header_refused, header_group, header_plain}
use Rattle.sheet.proofs.heads.read_header.Goals as goal

pub test_group-requires : goal.test_group-requires
test_group-requires c = opens_inside _ _ (passed c.opens_group.ensures c.if-not-opens_group.false)

pub count_at-requires : goal.count_at-requires
count_at-requires c = opens_inside _ _ (passed c.opens_group.ensures c.if-not-opens_group.false)

pub address_at-requires : goal.address_at-requires
address_at-requires c = opens_inside _ _ (passed c.opens_group.ensures c.if-not-opens_group.false)

pub returns-in_err-read_record : goal.returns-in_err-read_record
returns-in_err-read_record c =
    let p = err_from_is_err_and c.from_residual.result c.from_residual.ensures.1 in
    rw (p.1, p.2) (header_plain _ _ _ (failed c.opens_group.ensures c.if-not-opens_group.true) c.in_err-read_record.ensures)

pub returns-then-not-opens_group : goal.returns-then-not-opens_group
returns-then-not-opens_group c =
    single_read c.in_ok-read_record.field-0 c.map.result c.map.ensures.cases
    ∙ header_plain _ _ _ (failed c.opens_group.ensures c.if-not-opens_group.true) c.in_ok-read_record.ensures

pub returns-in-Ok : goal.returns-in-Ok
returns-in-Ok c = header_group _ _ _ (passed c.opens_group.ensures c.if-not-opens_group.false) c.in-Ok.ensures c.count_at.ensures c.address_at.ensures

pub returns-in-Err : goal.returns-in-Err
returns-in-Err c = header_refused _ _ _ _ (passed c.opens_group.ensures c.if-not-opens_group.false) c.in-Err.ensures

use Rattle.std.proofs.Common.{arith, refl}
use native.Mathlib.Nat.{sub-zero}
use Rattle.std.proofs.lemmas.Result.{err_from_is_err_and}
use Rattle.sheet.proofs.ItemLaws.{answers_end, answers_single, answers_group, answers_refused, opened, begins, members_end, members_refused, members_more, members_none}
use Rattle.sheet.proofs.PlaceLaws.{answer_after}
use Rattle.sheet.proofs.items.+read_group_read_item.Goals as goal

pub read_group-loop-member-init : goal.read_group-loop-member-init
read_group-loop-member-init t c = record { past = omega arith; same = rw sub-zero (begins _ _ _ _ _ refl) }

pub read_group-returns-in_err-item : goal.read_group-returns-in_err-item
read_group-returns-in_err-item t c =
    let p = err_from_is_err_and c.from_residual.result c.from_residual.ensures.1 in
    rw (p.1, p.2) (members_refused _ _ _ _ _ _ c.loop-member.invariant.same (omega arith) c.in_err-item.ensures)

pub read_group-returns-in_default : goal.read_group-returns-in_default
read_group-returns-in_default t c = members_end _ _ _ _ _ _ c.loop-member.invariant.same (omega arith) (rw c.in_default.is at c.in_ok-item.ensures)

pub read_group-loop-member-preserved : goal.read_group-loop-member-preserved
read_group-loop-member-preserved t c =
    let found = rw c.in-Some.is at c.in_ok-item.ensures in
    let a = answer_after _ _ _ found in
    record { past = omega arith; same = members_more _ _ _ _ _ _ c.loop-member.invariant.same (omega arith) found c.joined-sum.ensures }

pub read_group-returns : goal.read_group-returns
read_group-returns t c = members_none _ _ _ _ _ _ c.loop-member.invariant.same (omega arith) c.scaled.ensures

pub read_item-returns-in_err-read_header : goal.read_item-returns-in_err-read_header
read_item-returns-in_err-read_header t c =
    let p = err_from_is_err_and c.from_residual.result c.from_residual.ensures.1 in rw (p.1, p.2) (answers_refused _ _ _ c.in_err-read_header.ensures)

pub read_item-overflow_sub-depth : goal.read_item-overflow_sub-depth
read_item-overflow_sub-depth t c = (opened _ _ _ (rw (c.in-Some-Group.is, c.in-Some-Group.field-0-is) at c.in_ok-read_header.ensures)).0

pub read_item-overflow_add-at : goal.read_item-overflow_add-at
read_item-overflow_add-at t c = let o = opened _ _ _ (rw (c.in-Some-Group.is, c.in-Some-Group.field-0-is) at c.in_ok-read_header.ensures) in omega arith

pub read_item-read_group-requires : goal.read_item-read_group-requires
read_item-read_group-requires t c = let o = opened _ _ _ (rw (c.in-Some-Group.is, c.in-Some-Group.field-0-is) at c.in_ok-read_header.ensures) in omega arith

pub read_item-returns-in_err-group-in-Some-Group : goal.read_item-returns-in_err-group-in-Some-Group
read_item-returns-in_err-group-in-Some-Group t c =
    let p = err_from_is_err_and c.from_residual-in_err-group-in-Some-Group.result c.from_residual-in_err-group-in-Some-Group.ensures.1 in
    rw (p.1, p.2) (answers_group _ _ _ (rw (c.in-Some-Group.is, c.in-Some-Group.field-0-is) at c.in_ok-read_header.ensures) c.in_err-group-in-Some-Group.ensures)

pub read_item-returns-in_ok-group-in-Some-Group : goal.read_item-returns-in_ok-group-in-Some-Group
read_item-returns-in_ok-group-in-Some-Group t c =
    answers_group _ _ _ (rw (c.in-Some-Group.is, c.in-Some-Group.field-0-is) at c.in_ok-read_header.ensures) c.in_ok-group-in-Some-Group.ensures

pub read_item-returns-in-None : goal.read_item-returns-in-None
read_item-returns-in-None t c = answers_end _ _ _ (rw c.in-None.is at c.in_ok-read_header.ensures)

pub read_item-returns-in-Some-Single : goal.read_item-returns-in-Some-Single
read_item-returns-in-Some-Single t c = answers_single _ _ _ (rw (c.in-Some-Single.is, c.in-Some-Single.field-0-is) at c.in_ok-read_header.ensures) c.of_record.ensures

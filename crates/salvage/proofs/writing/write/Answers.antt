use Rattle.std.proofs.Common.{rules, arith, refl, ◌∙◌}
use Rattle.sheet.specs.Whole.{Bytes}
use Rattle.sheet.proofs.ListLaws.{part_copied}
use Rattle.salvage.proofs.LoopLaws.{end_kept, end_ranges, found_inside, found_dropped, found_fits, found_stored, found_room, dropped_inside, dropped_kept, dropped_fits, dropped_stored, dropped_room, range_stored}
use Rattle.salvage.proofs.writing.write.Goals as goal

pub loop-record-init : goal.loop-record-init
loop-record-init c =
    let p = c.requires in
    record { short = p.short; inside = omega arith; kept_room = omega (arith, p.bytes); dropped_room = omega (arith, p.numbers); kept = refl; dropped = refl }

pub returns-in-Ok-None : goal.returns-in-Ok-None
returns-in-Ok-None c =
    let i = c.loop-record.invariant in
    let e = rw c.in-Ok-None.field-0-is at c.in-Ok-None.ensures in
    (end_kept _ _ e refl _ _ i.kept, end_ranges _ _ e refl _ _ i.dropped)

pub overflow_sub-size : goal.overflow_sub-size
overflow_sub-size c = let f = found_inside _ _ (rw c.in-Ok-Some.field-0-is at c.in-Ok-Some.ensures) refl in omega arith

pub overflow_add-bytes : goal.overflow_add-bytes
overflow_add-bytes c =
    let e = rw c.in-Ok-Some.field-0-is at c.in-Ok-Some.ensures in
    let f = found_fits _ _ e refl (record { below = λ k. (c.type_inv.sheet k).fits }) _ c.loop-record.invariant.kept_room in
    search rules

pub slice_bounds-copy_bytes-end : goal.slice_bounds-copy_bytes-end
slice_bounds-copy_bytes-end c =
    let f = found_inside _ _ (rw c.in-Ok-Some.field-0-is at c.in-Ok-Some.ensures) refl in search rules

pub slice_bounds-copy_bytes-end-in-Ok-Some : goal.slice_bounds-copy_bytes-end-in-Ok-Some
slice_bounds-copy_bytes-end-in-Ok-Some c =
    let e = rw c.in-Ok-Some.field-0-is at c.in-Ok-Some.ensures in
    let f = found_fits _ _ e refl (record { below = λ k. (c.type_inv.sheet k).fits }) _ c.loop-record.invariant.kept_room in
    search rules

pub loop-record-smaller-in-Ok-Some : goal.loop-record-smaller-in-Ok-Some
loop-record-smaller-in-Ok-Some c = let f = found_inside _ _ (rw c.in-Ok-Some.field-0-is at c.in-Ok-Some.ensures) refl in omega arith

pub loop-record-preserved-in-Ok-Some : goal.loop-record-preserved-in-Ok-Some
loop-record-preserved-in-Ok-Some c =
    let e = rw c.in-Ok-Some.field-0-is at c.in-Ok-Some.ensures in
    let b : Bytes c.args.sheet.now = record { below = λ k. (c.type_inv.sheet k).fits } in
    let i = c.loop-record.invariant in
    let f = found_fits _ _ e refl b _ i.kept_room in
    let w = part_copied _ _ _ _ _ f.0 f.1 c.copy_bytes.ensures in
    record {
      short = i.short;
      inside = (found_inside _ _ e refl).1;
      kept_room = found_room _ _ e refl b _ _ w i.kept_room;
      dropped_room = rw (← found_dropped _ _ e refl) i.dropped_room;
      kept = found_stored _ _ e refl b _ _ w ∙ i.kept;
      dropped = rw (← found_dropped _ _ e refl) i.dropped;
    }

pub slice_bounds-copy_from_slice-end : goal.slice_bounds-copy_from_slice-end
slice_bounds-copy_from_slice-end c =
    let d = dropped_fits _ _ c.in-Err.ensures refl c.range_end-end.ensures _ c.loop-record.invariant.dropped_room in search rules

pub overflow_sub-end : goal.overflow_sub-end
overflow_sub-end c = let d = dropped_inside _ _ c.in-Err.ensures refl c.range_end-end.ensures in omega arith

pub loop-record-smaller : goal.loop-record-smaller
loop-record-smaller c = let d = dropped_inside _ _ c.in-Err.ensures refl c.range_end-end.ensures in omega arith

pub loop-record-preserved : goal.loop-record-preserved
loop-record-preserved c =
    let e = c.in-Err.ensures in
    let z = c.range_end-end.ensures in
    let i = c.loop-record.invariant in
    let d = dropped_fits _ _ e refl z _ i.dropped_room in
    let w = range_stored c.loop-record.ranges c.loop-record.numbers _ _ d c.copy_from_slice.ensures.after in
    record {
      short = i.short;
      inside = (dropped_inside _ _ e refl z).1;
      kept_room = rw (← dropped_kept _ _ e refl z) i.kept_room;
      dropped_room = dropped_room _ _ e refl z c.loop-record.ranges _ w i.dropped_room;
      kept = rw (← dropped_kept _ _ e refl z) i.kept;
      dropped = dropped_stored _ _ e refl z _ _ w ∙ i.dropped;
    }

use Rattle.std.proofs.Common.{arith, refl}
use Rattle.sheet.specs.Whole.{Bytes}
use Rattle.salvage.proofs.LoopLaws.{end_measured, found_inside, found_dropped, found_more, dropped_inside, dropped_kept, dropped_more}
use Rattle.salvage.proofs.reading.measure.Goals as goal

pub loop-sums-init : goal.loop-sums-init
loop-sums-init c = record { short = c.requires; inside = omega arith; few = (omega arith, omega arith); kept = omega arith; dropped = omega arith }

pub returns-in-Ok-None : goal.returns-in-Ok-None
returns-in-Ok-None c =
    let i = c.loop-sums.invariant in
    let m = end_measured _ _ (rw c.in-Ok-None.field-0-is at c.in-Ok-None.ensures) refl _ _ i.kept i.dropped in
    rw (← m.0, ← m.1)

pub overflow_sub-sums : goal.overflow_sub-sums
overflow_sub-sums c = let f = found_inside _ _ (rw c.in-Ok-Some.field-0-is at c.in-Ok-Some.ensures) refl in omega arith

pub loop-sums-smaller-in-Ok-Some : goal.loop-sums-smaller-in-Ok-Some
loop-sums-smaller-in-Ok-Some c = let f = found_inside _ _ (rw c.in-Ok-Some.field-0-is at c.in-Ok-Some.ensures) refl in omega arith

pub loop-sums-preserved-in-Ok-Some : goal.loop-sums-preserved-in-Ok-Some
loop-sums-preserved-in-Ok-Some c =
    let e = rw c.in-Ok-Some.field-0-is at c.in-Ok-Some.ensures in
    let i = c.loop-sums.invariant in
    let b : Bytes _ = record { below = λ k. (c.type_inv.sheet k).fits } in
    let f = found_inside _ _ e refl in
    let m = found_more _ _ e refl b in
    record {
      short = i.short;
      inside = f.1;
      few = (omega arith, omega arith);
      kept = omega (arith, i.kept);
      dropped = rw (← found_dropped _ _ e refl) i.dropped;
    }

pub loop-sums-smaller : goal.loop-sums-smaller
loop-sums-smaller c = let d = dropped_inside _ _ c.in-Err.ensures refl c.range_end-at.ensures in omega arith

pub loop-sums-preserved : goal.loop-sums-preserved
loop-sums-preserved c =
    let z = c.range_end-at.ensures in
    let i = c.loop-sums.invariant in
    let d = dropped_inside _ _ c.in-Err.ensures refl z in
    let m = dropped_more _ _ c.in-Err.ensures refl z in
    record {
      short = i.short;
      inside = d.1;
      few = (omega arith, omega arith);
      kept = rw (← dropped_kept _ _ c.in-Err.ensures refl z) i.kept;
      dropped = omega (arith, i.dropped);
    }

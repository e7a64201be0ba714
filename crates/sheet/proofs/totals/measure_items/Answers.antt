use Rattle.std.proofs.Common.{arith, refl}
use Rattle.std.proofs.lemmas.Result.{err_from_is_err_and}
use Rattle.sheet.proofs.PlaceLaws.{answer_after}
use Rattle.sheet.proofs.MeasureLaws.{starts, at_end, at_refused, at_found}
use Rattle.sheet.proofs.totals.measure_items.Goals as goal

pub loop-item-init : goal.loop-item-init
loop-item-init c = starts _ _ refl

pub returns-in_err-item : goal.returns-in_err-item
returns-in_err-item c =
    let p = err_from_is_err_and c.from_residual.result c.from_residual.ensures.1 in
    rw (p.1, p.2) (at_refused _ _ _ c.loop-item.invariant c.in_err-item.ensures)

pub loop-item-smaller : goal.loop-item-smaller
loop-item-smaller c = let a = answer_after _ _ _ (rw c.in-Some.is at c.in_ok-item.ensures) in omega arith

pub loop-item-preserved : goal.loop-item-preserved
loop-item-preserved c = at_found _ _ _ c.loop-item.invariant (rw c.in-Some.is at c.in_ok-item.ensures) c.joined-sum.ensures

pub returns : goal.returns
returns c = at_end _ _ _ c.loop-item.invariant (rw c.in_default.is at c.in_ok-item.ensures) c.joined.ensures c.within.ensures

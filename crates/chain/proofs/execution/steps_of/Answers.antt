use mathlib.Core.Path.{refl, sym, ap, ◌∙◌}
use native.Mathlib.Omega.{arith}
use Rattle.chain.specs.StepAnswer.{step_answer}
use Rattle.chain.proofs.RunLaws.{completed_as, ends_done, ends_out, steps_begin}
use Rattle.chain.proofs.Theorems.{ready_along}
use Rattle.chain.proofs.CountLaws.{run_fits}
use Rattle.chain.proofs.BurstLaws.{goes_on, ends_interrupt, ends_refused, summed}
use Rattle.chain.proofs.execution.steps_of.Goals as goal

pub loop-data-init : goal.loop-data-init
loop-data-init c =
    let z = c.no_counts-counts.ensures in
    record {
      ready = c.requires;
      lengths = (refl, refl, refl);
      few = rw z (omega arith);
      same = steps_begin _ _ _ _ z;
    }

pub advance-r-requires : goal.advance-r-requires
advance-r-requires c =
    let l = c.if-counts-allowance.false in
    (c.loop-data.invariant.ready, ((sym c.finished.ensures ∙ c.if-finished.false), omega arith))

pub loop-data-smaller : goal.loop-data-smaller
loop-data-smaller c =
    let i = c.loop-data.invariant in
    let a = c.advance-r.ensures in
    let l = c.if-counts-allowance.false in
    let few = a.few in
    let most = c.ranges.allowance in
    let e = summed _ _ _ _ _ i.same a (run_fits c.requires c.args.allowance (omega arith)) l c.plus-counts.ensures in
    let f = a.some (completed_as c.in-Ok.is c.if-interrupt.false) in
    rw e (omega arith)

pub loop-data-preserved : goal.loop-data-preserved
loop-data-preserved c =
    let i = c.loop-data.invariant in
    let a = c.advance-r.ensures in
    let k = c.advance-r.auto in
    let l = c.if-counts-allowance.false in
    let few = a.few in
    let most = c.ranges.allowance in
    let e = summed _ _ _ _ _ i.same a (run_fits c.requires c.args.allowance (omega arith)) l c.plus-counts.ensures in
    let q = completed_as c.in-Ok.is c.if-interrupt.false in
    record {
      ready = ready_along (a.goes q) i.ready;
      lengths = (k.«data» ∙ i.lengths.0, k.code ∙ i.lengths.1, k.log ∙ i.lengths.2);
      few = rw e (omega arith);
      same = rw e (goes_on _ _ _ _ _ i.same a l q);
    }

pub returns-then-finished : goal.returns-then-finished
returns-then-finished c = ends_done _ _ _ _ _ c.loop-data.invariant.same (sym c.finished.ensures ∙ c.if-finished.true)

pub returns-then-counts-allowance : goal.returns-then-counts-allowance
returns-then-counts-allowance c =
    ends_out _ _ _ _ _ c.loop-data.invariant.same c.if-counts-allowance.true (sym c.finished.ensures ∙ c.if-finished.false)

pub returns-then-interrupt : goal.returns-then-interrupt
returns-then-interrupt c =
    let i = c.loop-data.invariant in
    let a = c.advance-r.ensures in
    let l = c.if-counts-allowance.false in
    let few = a.few in
    let most = c.ranges.allowance in
    let e = summed _ _ _ _ _ i.same a (run_fits c.requires c.args.allowance (omega arith)) l c.plus-counts.ensures in
    rw e (ends_interrupt _ _ _ _ _ i.same a (completed_as c.in-Ok.is c.if-interrupt.true))

pub returns-in-Err : goal.returns-in-Err
returns-in-Err c =
    let i = c.loop-data.invariant in
    let a = c.advance-r.ensures in
    let l = c.if-counts-allowance.false in
    let few = a.few in
    let most = c.ranges.allowance in
    let e = summed _ _ _ _ _ i.same a (run_fits c.requires c.args.allowance (omega arith)) l c.plus-counts.ensures in
    rw e (ends_refused _ _ _ _ _ i.same a (ap step_answer c.in-Err.is))

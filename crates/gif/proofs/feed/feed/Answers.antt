use mathlib.Core.Path.{ap, ◌∙◌}
use native.Mathlib.Omega.{arith}
use Rattle.fields.proofs.CountLaws.{one_most}
use Rattle.gif.specs.GifAnswer.{gif_answer}
use Rattle.gif.proofs.FeedLaws.{leads_still, leads_one, ends_all, goes_on, ends_refused, next_log_fits}
use Rattle.gif.proofs.feed.feed.Goals as goal

pub overflow_add-packets-in-Ok : goal.overflow_add-packets-in-Ok
overflow_add-packets-in-Ok c =
    let f = c.loop-taken.invariant.few in
    let l = c.loop-taken-test.true in
    let m = one_most _ c.one_if-packets.ensures in
    omega arith

pub loop-taken-preserved : goal.loop-taken-preserved
loop-taken-preserved c =
    let s = c.step_at-r in
    let l = c.loop-taken-test.true in
    let i = c.loop-taken.invariant in
    let z = c.if-b-gt0.false in
    let still = leads_still c.quadwords_at_once-b.ensures.leads (omega arith) in
    let n = s.auto.log in
    let f = i.few in
    let m = one_most _ c.one_if-packets.ensures in
    let h = leads_one s.ensures (ap gif_answer c.in-Ok.is) in
    record {
      inner = i.inner;
      log_fits = next_log_fits _ _ _ _ _ _ s.ensures (rw still i.log_fits) n;
      place_fits = h.stays i.place_fits;
      length = n ∙ c.quadwords_at_once-b.auto.log ∙ i.length;
      few = omega arith;
      same = rw c.one_if-packets.ensures (goes_on _ _ _ _ _ _ _ _ _ i.same 1 _ (omega arith) (rw still at h));
    }

pub returns-in-Err : goal.returns-in-Err
returns-in-Err c =
    let i = c.loop-taken.invariant in
    let z = c.if-b-gt0.false in
    let still = leads_still c.quadwords_at_once-b.ensures.leads (omega arith) in
    ends_refused _ _ _ _ _ _ _ _ _ i.same c.loop-taken-test.true (rw still at c.step_at-r.ensures)
    c.in-Err.is i.log_fits.holds

pub returns : goal.returns
returns c = ends_all _ _ _ _ _ _ _ _ _ c.loop-taken.invariant.same c.loop-taken-test.false

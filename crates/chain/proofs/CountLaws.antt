-- One run's sums fit their 64 bits: each tag is a step, and so is each quadword of its payload at most, of which only the last tag's may be pending.
use Rattle.std.specs.Prelude.{None, Option, Some}
use mathlib.Core.Path.{◌≡◌, refl}
use mathlib.Core.Bool.{Bool, true, false}
use mathlib.Core.List.{List}
use Prim.Native.Nat.{ℕ, ◌+◌, ◌*◌, ◌^◌, ◌<◌, ◌≤◌}
use native.Mathlib.Omega.{arith}
use borrow.Author.Tests.{eqb-true, eqb-false, leb-true, leb-false}
use lib.Dec.{eqb, leb}
use Rattle.fields.specs.declared.Counts.{Counts}
use Rattle.fields.specs.declared.UnitCounts.{UnitCounts}
use Rattle.fields.specs.Counts.{Counted, total_qwc, unit_counts, of_unit, none, one_tag, plus, SumsFit}
use Rattle.fields.proofs.CountLaws.{total_none, total_plus, total_under, counted_none, counted_quadword, counted_plus}
use Rattle.fields.specs.Memory.{long_at, quadword_at}
use Rattle.fields.proofs.ChoiceLaws.{if_ind, if_ind_by}
use Rattle.fields.proofs.FieldLaws.{bits_below}
use Rattle.gif.specs.declared.GifPath.TheVariants.{Three}
use Rattle.gif.specs.GifAnswer.{GifAnswer, Taken, Refused as GifRefused}
use Rattle.gif.specs.Step.{gif_step}
use Rattle.memories.specs.Lengths.{Lent}
use Rattle.vif_codes.specs.VifAnswer.{VifAnswer, Word, Quadword, Refused as VifRefused}
use Rattle.vif_codes.specs.Counting.{counts_in}
use Rattle.vif_codes.specs.Words.{incoming_at}
use Rattle.vif.proofs.FeedLaws.{taken_counted}
use Rattle.chain_state.specs.declared.Payload.{Payload}
use Rattle.chain_state.specs.declared.Payload.TheVariants.{Nothing as NoPayload, Words}
use Rattle.chain.specs.StepAnswer.{Completed, StateStepped}
use Rattle.chain_state.specs.declared.State.{State}
use Rattle.chain_state.specs.Pending.{payload_pending, tags_after, payload_after}
use Rattle.chain.specs.Tags.{qwc_of, id_of, addr_of, payload_at, payload_of, tag_state, tag_read, tag_step}
use Rattle.chain.specs.Inner.{Ready}
use Rattle.chain.specs.Step.{Machine, machine, Stepped, refused_step, stepped_by, fed_unit, after_vif, vif_took, vif_given, after_gif, gif_given, payload_step, payload_or_tag, pending_or_tag, step_of}
use Rattle.chain_state.specs.Setters.{held_by}
use Rattle.chain.specs.Run.{Ran, steps_of}
use Rattle.chain.specs.Stops.{step_from, Reaches, here, step, Stops, at_end, at_allowance, at_interrupt, at_refusal}
use Rattle.chain.proofs.AfterLaws.{no_completed}
use Rattle.chain.proofs.ReadyLaws.{payload_ready}
use Rattle.chain.proofs.Theorems.{run_stops}

-- steps that count for c, between p and q payload words pending: beside each tag's step they have one for every four words that were taken
record Paid (c : Counts) (p q : ℕ) : Type 0 where
  counted : Counted (unit_counts c)
  tags : ℕ
  few : total_qwc c.qwc ≤ 65535 * tags
  paid : 4 * total_qwc c.qwc + 4 * tags + p ≤ 4 * c.steps + q
  most : p ≤ 262140 → q ≤ 262140

paid_none : (p : ℕ) → Paid none p p
paid_none p = let z = total_none in record { counted = counted_none; tags = 0; few = omega arith; paid = omega arith; most = λ h. h }

paid_plus : (c d : Counts) {p q r : ℕ} → Paid c p q → Paid d q r → Paid (plus c d) p r
paid_plus c d x y =
    let z = total_plus c.qwc d.qwc in
    let a = x.few in
    let b = y.few in
    let e = x.paid in
    let f = y.paid in
    record {
      counted = counted_plus x.counted y.counted;
      tags = x.tags + y.tags;
      few = omega arith;
      paid = omega arith;
      most = λ h. y.most (x.most h);
    }

-- a step that reads no tag takes four words at most
paid_unit : (c : UnitCounts) {p q : ℕ} → Counted c → c.steps ≡ 1 → p ≤ 4 + q → q ≤ p → Paid (of_unit c) p q
paid_unit c k e l h = let z = total_none in record { counted = k; tags = 0; few = omega arith; paid = omega arith; most = λ i. omega arith }

-- a tag: nothing was pending, and then all of its payload is
paid_tag : (id n : ℕ) → id < 8 → n ≤ 65535 → Paid (one_tag id n) 0 (4 * n)
paid_tag id n i h =
    let z = total_under id n i in
    record {
      counted = record { few_packets = omega arith; few_words = omega arith; few_nops = omega arith };
      tags = 1;
      few = omega arith;
      paid = omega arith;
      most = λ j. omega arith;
    }

-- where the steps fit, so do all sums
paid_fits : {c : Counts} {p q : ℕ} → Paid c p q → p ≤ 262140 → c.steps < 2 ^ 64 → SumsFit c
paid_fits x h l =
    let k = x.counted in
    let a = k.few_packets in
    let b = k.few_words in
    let d = k.few_nops in
    let e = x.few in
    let f = x.paid in
    let g = x.most h in
    record { steps = l; packets = omega arith; words = omega arith; nops = omega arith; qwc = omega arith }

-- ---- a step

record StepPaid (p : ℕ) (x : Stepped) : Type 0 where
  step_paid : (i : Bool) → x.answer ≡ Completed i → Paid x.counts p (payload_pending x.after.state.payload)

refused_paid : (p n : ℕ) (s : State) (m : Lent) → StepPaid p (refused_step n s m)
refused_paid p n s m = record { step_paid = λ i q. absurd (no_completed q) }

pending_of : (at qwc : ℕ) → payload_pending (payload_of at qwc) ≡ 4 * qwc
unfolding payload_of
pending_of at qwc =
    if_ind_by (λ (p : Payload). payload_pending p ≡ 4 * qwc) (eqb qwc 0) (λ e. let z = eqb-true qwc 0 e in omega arith) (λ e. refl)

-- k words of n are taken
record Less (n k : ℕ) (p : Payload) : Type 0 where
  less : payload_pending p ≤ n
  left : n ≤ k + payload_pending p

pending_after : (at n k : ℕ) → Less n k (payload_after at n k)
unfolding payload_after
pending_after at n k =
    if_ind_by (Less n k) (leb n k) (λ e. let l = leb-true n k e in record { less = omega arith; left = omega arith })
    (λ e. let l = leb-false n k e in record { less = omega arith; left = omega arith })

module _ (main : List ℕ) (s : State) (m : Lent) where
  tag_paid : (p : ℕ) → p ≡ 0 → StepPaid p (stepped_by (tag_step main s) m)
  unfolding tag_read tag_state
  tag_paid p z =
      let tag = long_at main s.tadr in
      let i = bits_below tag 28 30 in
      let n = bits_below tag 0 15 in
      if_ind (λ (x : StateStepped). StepPaid p (stepped_by x m)) _
      (record {
        step_paid = λ j q. rw (z, pending_of (payload_at (id_of tag) (addr_of tag) s.tadr) (qwc_of tag)) (paid_tag (id_of tag) (qwc_of tag) (omega arith) (omega arith));
      })
      (refused_paid p _ s m)

  -- what is pending after one word and after four
  vif_paid : (n a : ℕ) (t : Option ℕ) (p : ℕ → Payload) → Less n 4 (p 1) → Less n 4 (p 4) → StepPaid n (vif_given main a t p s m)
  unfolding vif_given
  vif_paid n a t p one four = go (vif_took (fed_unit s) main a s m).answer
    where
      counting : VifAnswer → UnitCounts
      counting b = counts_in (held_by (fed_unit s) s).waiting (incoming_at main a) b

      few : (b : VifAnswer) → Counted (counting b)
      few b = taken_counted (held_by (fed_unit s) s).waiting (incoming_at main a) b

      go : (b : VifAnswer) → StepPaid n (after_vif (fed_unit s) b (counting b) (vif_took (fed_unit s) main a s m) t p s m)
      go (Word i) = record { step_paid = λ j q. paid_unit (counting (Word i)) (few (Word i)) refl one.left one.less }
      go (Quadword i c) = record { step_paid = λ j q. paid_unit (counting (Quadword i c)) (few (Quadword i c)) refl four.left four.less }
      go (VifRefused k) = refused_paid n k s m

  gif_paid : (n a : ℕ) (p : Payload) → Less n 4 p → StepPaid n (gif_given main a p s m)
  unfolding gif_given
  gif_paid n a p l = go (gif_step Three s.path3 (quadword_at main a) s.used m.log).answer
    where
      go : (b : GifAnswer) → StepPaid n (after_gif b (gif_step Three s.path3 (quadword_at main a) s.used m.log) p s m)
      go (Taken c) = record { step_paid = λ j q. paid_unit _ (counted_quadword c) refl l.left l.less }
      go (GifRefused k) = refused_paid n k s m

  one_word : (at n : ℕ) → Less n 4 (payload_after at n 1)
  one_word at n =
      let w = pending_after at n 1 in
      let l = w.left in
      record { less = w.less; left = omega arith }

  payload_paid : (p : Payload) → StepPaid (payload_pending p) (payload_or_tag p main s m)
  unfolding payload_step
  payload_paid NoPayload = tag_paid 0 refl
  payload_paid (Words at n) =
      if_ind_by (StepPaid n) (eqb n 0) (λ e. tag_paid n (eqb-true n 0 e))
      (λ e. if_ind (StepPaid n) (eqb s.channel 2) (gif_paid n at (payload_after at n 4) (pending_after at n 4))
      (vif_paid n at s.tags (payload_after at n) (one_word at n) (pending_after at n 4)))

  -- a tag word leaves the payload
  pending_paid : (t : Option ℕ) → StepPaid (payload_pending s.payload) (pending_or_tag t s.payload main s m)
  pending_paid None = payload_paid s.payload
  pending_paid (Some a) =
      let same : Less (payload_pending s.payload) 4 s.payload = record { less = omega arith; left = omega arith } in
      vif_paid (payload_pending s.payload) a (tags_after a) (λ k. s.payload) same same

abbrev pending_in : Machine → ℕ
pending_in x = payload_pending x.state.payload

one_paid : (main : List ℕ) (x : Machine) (i : Bool) → (step_from main x).answer ≡ Completed i → Paid (step_from main x).counts (pending_in x) (pending_in (step_from main x).after)
unfolding step_of
one_paid main x i q = (pending_paid main x.state x.memories x.state.tags).step_paid i q

-- ---- steps and runs

along : {main : List ℕ} {c : Counts} {x y : Machine} → Reaches main c x y → Paid c (pending_in x) (pending_in y)
along {x = x} here = paid_none (pending_in x)
along {main} (step {c} {x} {z} d a p) = paid_plus (step_from main x).counts c (one_paid main x false a) (along p)

record RunPaid (n : ℕ) (x : Machine) (r : Ran) : Type 0 where
  few : r.counts.steps ≤ n
  run_paid : Paid r.counts (pending_in x) (pending_in r.after)

stops_paid : {main : List ℕ} {n : ℕ} {x : Machine} {r : Ran} → Stops main n x r → RunPaid n x r
stops_paid (at_end e l p h) = record { few = l; run_paid = along p }
stops_paid (at_allowance e l p h) = record { few = omega arith; run_paid = along p }
stops_paid {main} {n} {x} {r} (at_interrupt c y e k l p h b q) =
    record { few = l; run_paid = rw (k, q) (paid_plus c (step_from main y).counts (along p) (one_paid main y true b)) }
stops_paid (at_refusal c e l p h b) = record { few = omega arith; run_paid = along p }

-- the payload that is pending on a machine that passed the entry tests
few_pending : {main : List ℕ} {s : State} {m : Lent} → Ready main s m → payload_pending s.payload ≤ 262140
few_pending {main} {s} {m} r = go s.payload refl
  where
    words : (at n : ℕ) → s.payload ≡ Words at n → (b : Bool) → eqb n 0 ≡ b → n ≤ 262140
    words at n e true h = let z = eqb-true n 0 h in omega arith
    words at n e false h = (payload_ready r e (eqb-false n 0 h)).few

    go : (p : Payload) → s.payload ≡ p → payload_pending p ≤ 262140
    go NoPayload e = omega arith
    go (Words at n) e = words at n e (eqb n 0) refl

-- a run's sums fit
pub run_fits : {main : List ℕ} {s : State} {m : Lent} → Ready main s m → (n : ℕ) → n < 2 ^ 64 → SumsFit (steps_of main n s m).counts
run_fits {main} {s} {m} r n l =
    let o = stops_paid (run_stops main n (machine s m)) in
    let f = o.few in
    paid_fits o.run_paid (few_pending r) (omega arith)

-- A completed step: what was pending and four times the QWC read are what was taken and what is then pending.
use Rattle.std.specs.Prelude.{None, Option, Some}
use mathlib.Core.Path.{◌≡◌, refl, sym, ap}
use mathlib.Core.Bool.{Bool, true, false}
use mathlib.Core.List.{List}
use Prim.Native.Nat.{ℕ, ◌+◌, ◌*◌, ◌≤◌}
use native.Mathlib.Omega.{arith}
use borrow.Author.Tests.{leb-true, leb-false, eqb-true, eqb-false}
use lib.ListN.{length}
use lib.Dec.{eqb, leb}
use Rattle.fields.specs.declared.UnitCounts.{UnitCounts}
use Rattle.fields.specs.Counts.{qwc_under}
use Rattle.fields.specs.Fields.{if}
use Rattle.fields.specs.Memory.{long_at, quadword_at}
use Rattle.fields.proofs.ChoiceLaws.{if_ind_by}
use Rattle.gif.specs.declared.GifPath.TheVariants.{Three}
use Rattle.gif.specs.GifAnswer.{GifAnswer, Taken, Refused as GifRefused}
use Rattle.gif.specs.Step.{Left as GifLeft, gif_step}
use Rattle.memories.specs.Lengths.{Lent}
use Rattle.vif_codes.specs.VifAnswer.{VifAnswer, Word, Quadword, Refused as VifRefused}
use Rattle.vif_codes.specs.Counting.{counts_in}
use Rattle.vif_codes.specs.Words.{incoming_at}
use Rattle.vif.specs.Step.{Left as VifLeft, words_taken}
use Rattle.chain_state.specs.declared.Payload.{Payload}
use Rattle.chain_state.specs.declared.Payload.TheVariants.{Nothing as NoPayload, Words}
use Rattle.chain.specs.StepAnswer.{Completed, StateStepped}
use Rattle.chain_state.specs.declared.State.{State}
use Rattle.chain_state.specs.Pending.{payload_pending, tags_after, payload_after}
use Rattle.chain.specs.Tags.{qwc_of, id_of, addr_of, spr_of, payload_at as placed_at, payload_of, tag_refusal, tag_state, tag_read, tag_step}
use Rattle.chain.specs.Inner.{Ready, PayloadInside}
use Rattle.chain.specs.Step.{Stepped, refused_step, stepped_by, fed_unit, after_vif, vif_took, vif_given, after_gif, gif_given, payload_step, payload_or_tag, pending_or_tag, step_of}
use Rattle.chain_state.specs.Setters.{held_by}
use Rattle.chain.proofs.ReadyLaws.{payload_ready}
use Rattle.chain.proofs.AfterLaws.{no_completed}
use Rattle.history.specs.Trace.{Event, payload, tag_word, tag_at, payload_at, payload_or_tag_at, pending_or_tag_at, event_of, qwc_in, payload_in, qwcs_in}
use Rattle.history.proofs.QuadwordLaws.{is_quadword, quadword_begins}

-- an event, what is pending before the step, and the step, which counts the event's QWC by ID
pub record Balances (e : Event) (n : ℕ) (x : Stepped) : Type 0 where
  pub balances : (i : Bool) → x.answer ≡ Completed i → n + 4 * qwc_in e ≡ payload_in e + payload_pending x.after.state.payload
  pub counts : (i : Bool) → x.answer ≡ Completed i → x.counts.qwc ≡ qwcs_in e

refused_balances : (e : Event) (n k : ℕ) (s : State) (m : Lent) → Balances e n (refused_step k s m)
refused_balances e n k s m = record { balances = λ i q. absurd (no_completed q); counts = λ i q. absurd (no_completed q) }

-- ---- what is pending

pending_of : (at qwc : ℕ) → payload_pending (payload_of at qwc) ≡ 4 * qwc
unfolding payload_of
pending_of at qwc =
    if_ind_by (λ (p : Payload). payload_pending p ≡ 4 * qwc) (eqb qwc 0) (λ e. let z = eqb-true qwc 0 e in omega arith) (λ e. refl)

-- k words of n are taken
pending_after : (at n k : ℕ) → k ≤ n → n ≡ k + payload_pending (payload_after at n k)
unfolding payload_after
pending_after at n k h =
    if_ind_by (λ (p : Payload). n ≡ k + payload_pending p) (leb n k) (λ e. let l = leb-true n k e in omega arith) (λ e. let l = leb-false n k e in omega arith)

-- ---- the steps

module _ (main : List ℕ) (s : State) (m : Lent) where
  -- a tag where nothing is pending
  tag_balances : Balances (tag_at main s) 0 (stepped_by (tag_step main s) m)
  unfolding tag_read tag_state qwc_under
  tag_balances =
      if_ind_by (λ (x : StateStepped). Balances (tag_at main s) 0 (stepped_by x m))
      (eqb (tag_refusal (length main) s.tadr (id_of (long_at main s.tadr)) (addr_of (long_at main s.tadr)) (spr_of (long_at main s.tadr)) (qwc_of (long_at main s.tadr)) s.stack) 0)
      (λ e. record { balances = λ i q. ap (λ (k : ℕ). 0 + k) (sym (pending_of (placed_at (id_of (long_at main s.tadr)) (addr_of (long_at main s.tadr)) s.tadr) (qwc_of (long_at main s.tadr)))); counts = λ i q. refl })
      (λ e. refused_balances _ 0 _ s m)

  -- a tag word leaves the payload
  word_balances : (a : ℕ) (t : Option ℕ) → Balances tag_word (payload_pending s.payload) (vif_given main a t (λ k. s.payload) s m)
  unfolding vif_given
  word_balances a t = go (vif_took (fed_unit s) main a s m).answer
    where
      c : UnitCounts
      c = counts_in (held_by (fed_unit s) s).waiting (incoming_at main a) (vif_took (fed_unit s) main a s m).answer

      go : (b : VifAnswer) → Balances tag_word (payload_pending s.payload) (after_vif (fed_unit s) b c (vif_took (fed_unit s) main a s m) t (λ k. s.payload) s m)
      go (Word i) = record { balances = λ j q. omega arith; counts = λ j q. refl }
      go (Quadword i closed) = record { balances = λ j q. omega arith; counts = λ j q. refl }
      go (VifRefused n) = refused_balances _ _ n s m

  -- a word or a quadword of payload
  vif_balances : (at n : ℕ) → PayloadInside main s at n → Balances (payload (words_taken (vif_took (fed_unit s) main at s m).answer)) n (vif_given main at s.tags (payload_after at n) s m)
  unfolding vif_given
  vif_balances at n p = go (vif_took (fed_unit s) main at s m).answer refl
    where
      o : VifLeft
      o = vif_took (fed_unit s) main at s m

      c : UnitCounts
      c = counts_in (held_by (fed_unit s) s).waiting (incoming_at main at) o.answer

      go : (b : VifAnswer) → b ≡ o.answer → Balances (payload (words_taken b)) n (after_vif (fed_unit s) b c o s.tags (payload_after at n) s m)
      go (Word i) e = record { balances = λ j q. let l = p.some in let w = pending_after at n 1 (omega arith) in omega arith; counts = λ j q. refl }
      go (Quadword i closed) e =
          let b = quadword_begins (fed_unit s) (held_by (fed_unit s) s) s.path2 s.used m main at (ap is_quadword (sym e)) in
          let l = p.some in
          let w = p.whole in
          let four = pending_after at n 4 (omega arith) in
          record { balances = λ j q. omega arith; counts = λ j q. refl }
      go (VifRefused k) e = refused_balances _ n k s m

  -- a quadword on channel 2
  gif_balances : (at n : ℕ) → PayloadInside main s at n → s.channel ≡ 2 → Balances (payload 4) n (gif_given main at (payload_after at n 4) s m)
  unfolding gif_given
  gif_balances at n p c = go (gif_step Three s.path3 (quadword_at main at) s.used m.log).answer
    where
      o : GifLeft
      o = gif_step Three s.path3 (quadword_at main at) s.used m.log

      go : (b : GifAnswer) → Balances (payload 4) n (after_gif b o (payload_after at n 4) s m)
      go (Taken closed) =
          let l = p.some in
          let w = p.whole in
          let b = p.quadwords c in
          let four = pending_after at n 4 (omega arith) in
          record { balances = λ j q. omega arith; counts = λ j q. refl }
      go (GifRefused k) = refused_balances _ n k s m

  payload_balances : (at n : ℕ) → PayloadInside main s at n → Balances (payload_at main at s m) n (payload_step main at n s m)
  unfolding payload_at payload_step if
  payload_balances at n p = go (eqb s.channel 2) refl
    where
      go : (b : Bool) → eqb s.channel 2 ≡ b
          → Balances (payload (if b 4 (words_taken (vif_took (fed_unit s) main at s m).answer))) n
          (if b (gif_given main at (payload_after at n 4) s m) (vif_given main at s.tags (payload_after at n) s m))
      go true e = gif_balances at n p (eqb-true s.channel 2 e)
      go false e = vif_balances at n p

  module _ (r : Ready main s m) where
    payload_or_tag_lem : (p : Payload) → s.payload ≡ p → Balances (payload_or_tag_at p main s m) (payload_pending p) (payload_or_tag p main s m)
    unfolding if
    payload_or_tag_lem NoPayload q = tag_balances
    payload_or_tag_lem (Words at n) q = go (eqb n 0) refl
      where
        go : (b : Bool) → eqb n 0 ≡ b → Balances (if b (tag_at main s) (payload_at main at s m)) n (if b (stepped_by (tag_step main s) m) (payload_step main at n s m))
        go true e = rw (eqb-true n 0 e) tag_balances
        go false e = payload_balances at n (payload_ready r q (eqb-false n 0 e))

    pending_or_tag_lem : (t : Option ℕ) → Balances (pending_or_tag_at t s.payload main s m) (payload_pending s.payload) (pending_or_tag t s.payload main s m)
    pending_or_tag_lem None = payload_or_tag_lem s.payload refl
    pending_or_tag_lem (Some a) = word_balances a (tags_after a)

    pub step_balances : Balances (event_of main s m) (payload_pending s.payload) (step_of main s m)
    unfolding event_of step_of
    step_balances = pending_or_tag_lem s.tags

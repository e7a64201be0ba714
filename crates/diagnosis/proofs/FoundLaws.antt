-- The place that a refused step reads, and what is found there.
use Rattle.std.specs.Prelude.{None, Option, Some}
use mathlib.Core.Path.{◌≡◌, refl, sym, ap, ◌∙◌}
use mathlib.Core.Bool.{Bool, true, false}
use mathlib.Core.List.{List}
use Prim.Native.Nat.{ℕ}
use native.Mathlib.Omega.{arith}
use borrow.Author.Tests.{eqb-true, eqb-false}
use lib.Dec.{eqb}
use Rattle.fields.specs.Fields.{if}
use Rattle.fields.specs.Memory.{quadword_at}
use Rattle.fields.specs.declared.UnitCounts.{UnitCounts}
use Rattle.gif.specs.declared.GifPath.TheVariants.{Three}
use Rattle.gif.specs.GifAnswer.{GifAnswer, Taken, Refused as GifRefused}
use Rattle.gif.specs.Step.{Left as GifLeft, gif_step}
use Rattle.memories.specs.declared.VifUnit.{VifUnit}
use Rattle.memories.specs.Lengths.{Lent}
use Rattle.vif_codes.specs.VifAnswer.{VifAnswer, Word, Quadword, Refused as VifRefused}
use Rattle.vif_codes.specs.Words.{incoming_at}
use Rattle.vif.specs.Step.{Left as VifLeft}
use Rattle.chain_state.specs.declared.Payload.{Payload}
use Rattle.chain_state.specs.declared.Payload.TheVariants.{Nothing as NoPayload, Words}
use Rattle.chain.specs.StepAnswer.{Completed, Refused}
use Rattle.chain_state.specs.declared.State.{State}
use Rattle.chain_state.specs.Pending.{tags_after, payload_after}
use Rattle.chain.specs.Tags.{tag_step}
use Rattle.chain_state.specs.Range.{entry_refusal}
use Rattle.chain.specs.Step.{Stepped, stepped_by, fed_unit, after_vif, vif_took, vif_given, after_gif, gif_given, payload_step, payload_or_tag, pending_or_tag, step_of}
use Rattle.chain_state.specs.Setters.{held_by}
use Rattle.chain.proofs.ReadyLaws.{facts_of}
use Rattle.gif_reason.specs.Reason.{quadword_numbers, quadword_needs}
use Rattle.gif_reason.proofs.Truth.{quadword_told}
use Rattle.vif_reason.proofs.Truth.{word_told}
use Rattle.chain_reason.specs.Reason.{tag_numbers, payload_place, pending_place, next_place}
use Rattle.chain_reason.proofs.Truth.{tag_told}
use Rattle.diagnosis.specs.Why.{unit_numbers, unit_needs, payload_numbers, payload_needs, payload_or_tag_numbers, payload_or_tag_needs, pending_numbers, pending_needs, next_numbers, next_needs}
use Rattle.diagnosis.specs.Truth.{NothingPending, no_payload, no_words, PayloadPending, WordPending, tag_word, payload_word, FoundAt, in_tag, in_word, in_quadword}
use Rattle.diagnosis.proofs.TrialLaws.{log_held}

no_completed : {i : Bool} {n : ℕ} → Completed i ≡ Refused n → ⊥
no_completed e = let z : ◌≡◌ {A = ℕ} 0 1 = cc in omega arith

-- a step that is refused was refused by the unit, or by path 3
vif_refused : (which : VifUnit) (b : VifAnswer) (d : UnitCounts) (o : VifLeft) (t : Option ℕ) (p : ℕ → Payload) (s : State) (m : Lent) (k : ℕ)
    → (after_vif which b d o t p s m).answer ≡ Refused k → b ≡ VifRefused k
vif_refused which (Word i) d o t p s m k e = absurd (no_completed e)
vif_refused which (Quadword i c) d o t p s m k e = absurd (no_completed e)
vif_refused which (VifRefused j) d o t p s m k e = let q : j ≡ k = cc in ap (λ (n : ℕ). VifRefused n) q

gif_refused : (b : GifAnswer) (o : GifLeft) (p : Payload) (s : State) (m : Lent) (k : ℕ) → (after_gif b o p s m).answer ≡ Refused k → b ≡ GifRefused k
gif_refused (Taken c) o p s m k e = absurd (no_completed e)
gif_refused (GifRefused j) o p s m k e = let q : j ≡ k = cc in ap (λ (n : ℕ). GifRefused n) q

given_by : (main : List ℕ) (a : ℕ) (t : Option ℕ) (p : ℕ → Payload) (s : State) (m : Lent) (k : ℕ) → (vif_given main a t p s m).answer ≡ Refused k
    → (vif_took (fed_unit s) main a s m).answer ≡ VifRefused k
unfolding vif_given
given_by main a t p s m k e = vif_refused (fed_unit s) (vif_took (fed_unit s) main a s m).answer _ (vif_took (fed_unit s) main a s m) t p s m k e

taken_by_lem : (main : List ℕ) (a : ℕ) (p : Payload) (s : State) (m : Lent) (k : ℕ) → (gif_given main a p s m).answer ≡ Refused k
    → (gif_step Three s.path3 (quadword_at main a) s.used m.log).answer ≡ GifRefused k
unfolding gif_given
taken_by_lem main a p s m k e =
    gif_refused (gif_step Three s.path3 (quadword_at main a) s.used m.log).answer (gif_step Three s.path3 (quadword_at main a) s.used m.log) p s m k e

module _ (main : List ℕ) (s : State) (m : Lent) (h : entry_refusal main m s ≡ 0) (k : ℕ) (e : (step_of main s m).answer ≡ Refused k) where
  abbrev Is : Stepped → Type 0
  Is x = step_of main s m ≡ x

  -- that step's answer
  answered : {x : Stepped} → Is x → x.answer ≡ Refused k
  answered q = ap (λ (y : Stepped). y.answer) (sym q) ∙ e

  found_tag : NothingPending s → Is (stepped_by (tag_step main s) m) → FoundAt main s m k s.tadr (tag_numbers k main s)
  found_tag w q = in_tag w q (tag_told main s k (answered q))

  found_word : (a : ℕ) (t : Option ℕ) (p : ℕ → Payload) → WordPending s a → Is (vif_given main a t p s m)
      → FoundAt main s m k a (unit_numbers k (unit_needs main a s) main a s m.log)
  found_word a t p w q =
      in_word a t p w q
      (word_told (fed_unit s) (held_by (fed_unit s) s) s.path2 (facts_of {main = main} {s = s} {m = m} (record { passed = h })).fields.path2 (incoming_at main a) s.used m (log_held main s m h) k (given_by main a t p s m k (answered q)))

  found_quadword : (a : ℕ) (p : Payload) → PayloadPending s a → Is (gif_given main a p s m)
      → FoundAt main s m k a (quadword_numbers k s.path3 (quadword_needs s.path3 (quadword_at main a)) s.used m.log)
  found_quadword a p w q =
      in_quadword a p w q
      (quadword_told Three s.path3 (facts_of {main = main} {s = s} {m = m} (record { passed = h })).fields.path3 (quadword_at main a) s.used m.log (log_held main s m h) k (taken_by_lem main a p s m k (answered q)))

  found_payload : (at n : ℕ) → PayloadPending s at → Is (payload_step main at n s m) → FoundAt main s m k at (payload_numbers k (payload_needs main at s) main at s m.log)
  unfolding payload_step payload_numbers payload_needs if
  found_payload at n w q = go (eqb s.channel 2) q
    where
      go : (b : Bool) → Is (if b (gif_given main at (payload_after at n 4) s m) (vif_given main at s.tags (payload_after at n) s m))
          → FoundAt main s m k at
          (if b (quadword_numbers k s.path3 (if b (quadword_needs s.path3 (quadword_at main at)) (unit_needs main at s)) s.used m.log) (unit_numbers k (if b (quadword_needs s.path3 (quadword_at main at)) (unit_needs main at s)) main at s m.log))
      go true r = found_quadword at (payload_after at n 4) w r
      go false r = found_word at s.tags (payload_after at n) (payload_word w) r

  found_payload_or_tag : (p : Payload) → s.tags ≡ None → s.payload ≡ p → Is (payload_or_tag p main s m)
      → FoundAt main s m k (payload_place p s) (payload_or_tag_numbers p k (payload_or_tag_needs p main s) main s m.log)
  unfolding if
  found_payload_or_tag NoPayload f g q = found_tag (no_payload f g) q
  found_payload_or_tag (Words at n) f g q = go (eqb n 0) refl q
    where
      go : (b : Bool) → eqb n 0 ≡ b → Is (if b (stepped_by (tag_step main s) m) (payload_step main at n s m))
          → FoundAt main s m k (if b s.tadr at) (if b (tag_numbers k main s) (payload_numbers k (if b 0 (payload_needs main at s)) main at s m.log))
      go true z r = found_tag (no_words f g (eqb-true n 0 z)) r
      go false z r = found_payload at n (record { count = n; no_tags_lem = f; words = g; some = eqb-false n 0 z }) r

  found_pending : (t : Option ℕ) (p : Payload) → s.tags ≡ t → s.payload ≡ p → Is (pending_or_tag t p main s m)
      → FoundAt main s m k (pending_place t p s) (pending_numbers t p k (pending_needs t p main s) main s m.log)
  found_pending None p f g q = found_payload_or_tag p f g q
  found_pending (Some a) p f g q = found_word a (tags_after a) (λ j. s.payload) (tag_word f) q

  pub found_next : FoundAt main s m k (next_place s) (next_numbers k (next_needs main s) main s m.log)
  unfolding step_of next_place next_numbers next_needs
  found_next = found_pending s.tags s.payload refl refl refl

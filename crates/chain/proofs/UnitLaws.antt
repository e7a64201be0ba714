-- The units apart: a step on channel 0 leaves VIF1 and both paths, any other step leaves VIF0.
use Rattle.std.specs.Prelude.{None, Option, Some}
use mathlib.Core.Path.{◌≡◌, refl}
use mathlib.Core.List.{List}
use Prim.Native.Nat.{ℕ}
use native.Mathlib.Omega.{arith}
use borrow.Author.Tests.{ne_eqb}
use lib.Dec.{eqb}
use Rattle.fields.specs.Fields.{if}
use Rattle.fields.specs.Memory.{quadword_at}
use Rattle.fields.proofs.ChoiceLaws.{if_ind}
use Rattle.fields.specs.declared.UnitCounts.{UnitCounts}
use Rattle.gif.specs.declared.GifPath.TheVariants.{Three}
use Rattle.gif.specs.GifAnswer.{GifAnswer, Taken, Refused as GifRefused}
use Rattle.gif.specs.Step.{gif_step}
use Rattle.memories.specs.declared.VifUnit.TheVariants.{Vif0, Vif1}
use Rattle.memories.specs.Lengths.{Lent}
use Rattle.vif_codes.specs.VifAnswer.{VifAnswer, Word, Quadword, Refused as VifRefused}
use Rattle.vif_codes.specs.Words.{incoming_at}
use Rattle.vif.proofs.Vif0Laws.{step_path}
use Rattle.chain_state.specs.declared.Payload.{Payload}
use Rattle.chain_state.specs.declared.Payload.TheVariants.{Nothing as NoPayload, Words}
use Rattle.chain.specs.StepAnswer.{StateStepped}
use Rattle.chain_state.specs.declared.State.{State}
use Rattle.chain.specs.Tags.{tag_state, tag_read, tag_step}
use Rattle.chain_state.specs.Range.{unit_of}
use Rattle.chain_state.specs.Pending.{tags_after, payload_after}
use Rattle.chain.specs.Inner.{Ready}
use Rattle.chain.specs.Step.{Stepped, stepped_by, after_vif, vif_took, vif_given, after_gif, gif_given, payload_step, payload_or_tag, pending_or_tag, step_of}
use Rattle.chain.proofs.ReadyLaws.{facts_of}

pub channel_vif0 : (channel : ℕ) → channel ≡ 0 → unit_of channel ≡ Vif0
unfolding unit_of if
channel_vif0 channel h = rw h

pub channel_vif1 : (channel : ℕ) → (channel ≡ 0 → ⊥) → unit_of channel ≡ Vif1
unfolding unit_of if
channel_vif1 channel h = rw (ne_eqb channel 0 h)

-- ---- channel 0

-- VIF1, path 2 and path 3 as they were
pub record OthersKept (s : State) (x : Stepped) : Type 0 where
  pub vif1 : x.after.state.vif1 ≡ s.vif1
  pub path2 : x.after.state.path2 ≡ s.path2
  pub path3 : x.after.state.path3 ≡ s.path3

-- on a machine that passed the entry tests
module _ (main : List ℕ) (s : State) (m : Lent) (r : Ready main s m) (c : s.channel ≡ 0) where
  no_path_lem : (a : ℕ) → (vif_took Vif0 main a s m).path2 ≡ s.path2
  no_path_lem a = step_path s.vif0 (facts_of r).fields.unit0 s.path2 s.used m (incoming_at main a)

  tag_leaves : OthersKept s (stepped_by (tag_step main s) m)
  unfolding tag_read tag_state
  tag_leaves =
      if_ind (λ (x : StateStepped). OthersKept s (stepped_by x m)) _ (record { vif1 = refl; path2 = refl; path3 = refl }) (record { vif1 = refl; path2 = refl; path3 = refl })

  word_leaves : (a : ℕ) (t : Option ℕ) (p : ℕ → Payload) → OthersKept s (vif_given main a t p s m)
  unfolding vif_given
  word_leaves a t p = rw (channel_vif0 s.channel c) (go (vif_took Vif0 main a s m).answer _)
    where
      go : (b : VifAnswer) (k : UnitCounts) → OthersKept s (after_vif Vif0 b k (vif_took Vif0 main a s m) t p s m)
      go (Word i) k = record { vif1 = refl; path2 = no_path_lem a; path3 = refl }
      go (Quadword i d) k = record { vif1 = refl; path2 = no_path_lem a; path3 = refl }
      go (VifRefused n) k = record { vif1 = refl; path2 = refl; path3 = refl }

  given_leaves : (at n : ℕ) → OthersKept s (payload_step main at n s m)
  unfolding payload_step if
  given_leaves at n = let z = ne_eqb s.channel 2 (λ e. omega arith) in rw z (word_leaves at s.tags (payload_after at n))

  payload_leaves : (p : Payload) → OthersKept s (payload_or_tag p main s m)
  payload_leaves NoPayload = tag_leaves
  payload_leaves (Words at n) = if_ind (OthersKept s) (eqb n 0) tag_leaves (given_leaves at n)

  -- request 10: "no path to the GIF"; "The state keeps its registers and waiting code apart from VIF1's"
  pub vif0_alone : OthersKept s (step_of main s m)
  unfolding step_of
  vif0_alone = go s.tags
    where
      go : (t : Option ℕ) → OthersKept s (pending_or_tag t s.payload main s m)
      go None = payload_leaves s.payload
      go (Some a) = word_leaves a (tags_after a) (λ k. s.payload)

-- ---- another channel

module _ (main : List ℕ) (s : State) (m : Lent) (c : s.channel ≡ 0 → ⊥) where
  abbrev Vif0Kept : Stepped → Type 0
  Vif0Kept x = x.after.state.vif0 ≡ s.vif0

  tag_keeps : Vif0Kept (stepped_by (tag_step main s) m)
  unfolding tag_read tag_state
  tag_keeps = if_ind (λ (x : StateStepped). Vif0Kept (stepped_by x m)) _ refl refl

  word_keeps : (a : ℕ) (t : Option ℕ) (p : ℕ → Payload) → Vif0Kept (vif_given main a t p s m)
  unfolding vif_given
  word_keeps a t p = rw (channel_vif1 s.channel c) (go (vif_took Vif1 main a s m).answer _)
    where
      go : (b : VifAnswer) (k : UnitCounts) → Vif0Kept (after_vif Vif1 b k (vif_took Vif1 main a s m) t p s m)
      go (Word i) k = refl
      go (Quadword i d) k = refl
      go (VifRefused n) k = refl

  quadword_keeps : (a : ℕ) (p : Payload) → Vif0Kept (gif_given main a p s m)
  unfolding gif_given
  quadword_keeps a p = go (gif_step Three s.path3 (quadword_at main a) s.used m.log).answer
    where
      go : (b : GifAnswer) → Vif0Kept (after_gif b (gif_step Three s.path3 (quadword_at main a) s.used m.log) p s m)
      go (Taken d) = refl
      go (GifRefused n) = refl

  payload_keeps : (p : Payload) → Vif0Kept (payload_or_tag p main s m)
  unfolding payload_step
  payload_keeps NoPayload = tag_keeps
  payload_keeps (Words at n) =
      if_ind Vif0Kept (eqb n 0) tag_keeps
      (if_ind Vif0Kept (eqb s.channel 2) (quadword_keeps at (payload_after at n 4)) (word_keeps at s.tags (payload_after at n)))

  -- a step of VIF1 or of the GIF leaves VIF0
  pub vif0_kept : (step_of main s m).after.state.vif0 ≡ s.vif0
  unfolding step_of
  vif0_kept = go s.tags
    where
      go : (t : Option ℕ) → Vif0Kept (pending_or_tag t s.payload main s m)
      go None = payload_keeps s.payload
      go (Some a) = word_keeps a (tags_after a) (λ k. s.payload)

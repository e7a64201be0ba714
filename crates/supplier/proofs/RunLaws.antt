-- A run from reset: it is VIF1's from the first step to the last, so what it leaves has the lengths that it was lent.
use Rattle.std.specs.Prelude.{None, Option, Some, Result, Ok, Err}
use Rattle.std.specs.Result.{IsOk}
use mathlib.Core.Path.{◌≡◌, refl, sym, ap, ◌∙◌}
use mathlib.Core.Bool.{false, not}
use mathlib.Core.List.{List}
use Prim.Native.Nat.{ℕ}
use native.Mathlib.Omega.{arith}
use borrow.Author.Tests.{eqb-true, not-false}
use lib.ListN.{length}
use lib.Dec.{eqb}
use Rattle.fields.specs.declared.Counts.{Counts}
use Rattle.fields.specs.declared.UnitCounts.{UnitCounts}
use Rattle.fields.specs.declared.refusals.Refusal.{Refusal}
use Rattle.fields.specs.Fields.{if}
use Rattle.fields.specs.Memory.{quadword_at}
use Rattle.fields.specs.Refusals.{main_length}
use Rattle.fields.proofs.ChoiceLaws.{if_ind, if_ind_by}
use Rattle.gif.specs.GifAnswer.{GifAnswer, Taken, Refused as GifRefused}
use Rattle.gif.specs.declared.GifPath.TheVariants.{Three}
use Rattle.gif.specs.Step.{gif_step}
use Rattle.memories.specs.declared.VifUnit.TheVariants.{Vif1}
use Rattle.memories.specs.Lengths.{Lent, LengthsFit, lengths_refusal}
use Rattle.vif_codes.specs.VifAnswer.{VifAnswer, Word, Quadword, Refused as VifRefused}
use Rattle.chain_state.specs.StartAnswer.{Started}
use Rattle.chain.specs.StepAnswer.{StateStepped}
use Rattle.chain_state.specs.declared.Payload.{Payload}
use Rattle.chain_state.specs.declared.Payload.TheVariants.{Nothing as NoPayload, Words}
use Rattle.chain_state.specs.declared.State.{State}
use Rattle.chain_state.specs.Range.{unit_of, main_refused, start_in_range, channel_in_range, stack_in_range, tags_in_range, payload_in_range, tags_inside, payload_inside, entry_refusal}
use Rattle.chain_state.specs.Start.{StartResult, reset_state, start_result, started_from, started_by, start_of}
use Rattle.chain.specs.Tags.{tag_state, tag_read, tag_step}
use Rattle.chain_state.specs.Pending.{tags_after, payload_after}
use Rattle.chain.specs.Step.{Machine, machine, Stepped, stepped_by, fed_unit, after_vif, vif_took, vif_given, after_gif, gif_given, payload_step, payload_or_tag, pending_or_tag, step_of}
use Rattle.chain.specs.Run.{Ran, steps_of}
use Rattle.chain.specs.Stops.{Reaches, here, step, Stops, at_end, at_allowance, at_interrupt, at_refusal}
use Rattle.chain.proofs.ReadyLaws.{Fields, fields_of_lem, state_of, facts_of}
use Rattle.chain.proofs.RunLaws.{run_entered}
use Rattle.chain.proofs.Theorems.{run_stops, run_accepted}
use Rattle.conformance.specs.Inner.{memories_refusal}
use Rattle.conformance.proofs.StartLaws.{start_accepted}
use Rattle.conformance.proofs.NotEmpty.{reset_ranged, reset_used}
use Rattle.supplier.specs.Check.{begun, run_from_reset}

-- ---- a step keeps the channel

record Keeps (s : State) (x : Stepped) : Type 0 where
  channel : x.after.state.channel ≡ s.channel

module _ (main : List ℕ) (s : State) (m : Lent) where
  tag_keeps : Keeps s (stepped_by (tag_step main s) m)
  unfolding tag_read tag_state
  tag_keeps = if_ind (λ (x : StateStepped). Keeps s (stepped_by x m)) _ (record { channel = refl }) (record { channel = refl })

  vif_keeps : (a : ℕ) (t : Option ℕ) (p : ℕ → Payload) → Keeps s (vif_given main a t p s m)
  unfolding vif_given
  vif_keeps a t p = go (vif_took (fed_unit s) main a s m).answer _
    where
      go : (b : VifAnswer) (k : UnitCounts) → Keeps s (after_vif (fed_unit s) b k (vif_took (fed_unit s) main a s m) t p s m)
      go (Word i) k = record { channel = refl }
      go (Quadword i c) k = record { channel = refl }
      go (VifRefused n) k = record { channel = refl }

  gif_keeps : (a : ℕ) (p : Payload) → Keeps s (gif_given main a p s m)
  unfolding gif_given
  gif_keeps a p = go (gif_step Three s.path3 (quadword_at main a) s.used m.log).answer
    where
      go : (b : GifAnswer) → Keeps s (after_gif b (gif_step Three s.path3 (quadword_at main a) s.used m.log) p s m)
      go (Taken c) = record { channel = refl }
      go (GifRefused n) = record { channel = refl }

  payload_keeps : (p : Payload) → Keeps s (payload_or_tag p main s m)
  unfolding payload_step
  payload_keeps NoPayload = tag_keeps
  payload_keeps (Words at n) =
      if_ind (Keeps s) (eqb n 0) tag_keeps
      (if_ind (Keeps s) (eqb s.channel 2) (gif_keeps at (payload_after at n 4)) (vif_keeps at s.tags (payload_after at n)))

  pending_keeps : (t : Option ℕ) (p : Payload) → Keeps s (pending_or_tag t p main s m)
  pending_keeps None p = payload_keeps p
  pending_keeps (Some a) p = vif_keeps a (tags_after a) (λ k. s.payload)

  step_keeps : Keeps s (step_of main s m)
  unfolding step_of
  step_keeps = pending_keeps s.tags s.payload

-- ---- and so does a run

along : {main : List ℕ} {c : Counts} {x y : Machine} → Reaches main c x y → y.state.channel ≡ x.state.channel
along here = refl
along {main} (step {x = x} d a p) = along p ∙ (step_keeps main x.state x.memories).channel

stops_keep : (main : List ℕ) (n : ℕ) (x : Machine) (o : Ran) → Stops main n x o → o.after.state.channel ≡ x.state.channel
stops_keep main n x o (at_end e l p h) = along p
stops_keep main n x o (at_allowance e c p h) = along p
stops_keep main n x o (at_interrupt k y e c l p h b q) = ap (λ (z : Machine). z.state.channel) q ∙ (step_keeps main y.state y.memories).channel ∙ along p
stops_keep main n x o (at_refusal c e l p h b) = along p

-- ---- from reset

pub reset_starts : start_of reset_state 1 0 false ≡ start_result Started (started_from reset_state 1 0 false)
unfolding start_in_range channel_in_range
reset_starts = start_accepted reset_state 0 reset_ranged refl

-- a start from reset is accepted
pub reset_ok : {s : State} (r : Result State Refusal) → s ≡ reset_state → started_by s r ≡ start_of s 1 0 false → IsOk r
reset_ok (Ok t) e q = refl
reset_ok (Err x) e q = absurd (let k = ap (λ (y : StartResult). y.answer) (rw (e, reset_starts) at q) in let z : ◌≡◌ {A = ℕ} 0 1 = cc in omega arith)

pub reset_begins : {s t : State} {r : Result State Refusal} → s ≡ reset_state → r ≡ Ok t → started_by s r ≡ start_of s 1 0 false → t ≡ begun
unfolding begun
reset_begins e o q = ap (λ (y : StartResult). y.state) (rw (o, e) at q)

begun_made : begun ≡ started_from reset_state 1 0 false
unfolding begun
begun_made = ap (λ (r : StartResult). r.state) reset_starts

begun_fields : Fields (started_from reset_state 1 0 false)
unfolding start_in_range channel_in_range stack_in_range tags_in_range payload_in_range
begun_fields =
    let f = fields_of_lem reset_state reset_ranged in
    record { start = refl; stack = refl; tags = refl; payload = refl; unit0 = f.unit0; unit1 = f.unit1; path2 = f.path2; path3 = f.path3 }

pub begun_channel : begun.channel ≡ 1
begun_channel = ap (λ (s : State). s.channel) begun_made

pub begun_used : begun.used ≡ 0
begun_used = ap (λ (s : State). s.used) begun_made ∙ reset_used

-- "entry refusals": of a run from reset 1 to 4 alone, since its state is in range and nothing is pending
pub lengths_alone : (main : List ℕ) (m : Lent) → entry_refusal main m begun ≡ memories_refusal main m 0
unfolding entry_refusal memories_refusal unit_of tags_inside payload_inside if
lengths_alone main m =
    rw (begun_made, state_of _ begun_fields, reset_used)
    (if_ind_by (λ (n : ℕ). if (main_refused (length main)) main_length n ≡ if (main_refused (length main)) main_length (lengths_refusal Vif1 m 0)) (not (eqb (lengths_refusal Vif1 m 0) 0))
    (λ t. refl) (λ t. rw (eqb-true (lengths_refusal Vif1 m 0) 0 (not-false _ t))))

module _ (main : List ℕ) (m : Lent) (h : entry_refusal main m begun ≡ 0) where
  -- what the run gets
  pub lent_fits : LengthsFit Vif1 m 0
  unfolding unit_of if
  lent_fits = rw (begun_channel, begun_used) at (facts_of {main = main} {s = begun} {m = m} (record { passed = h })).fit

  module _ (allowance : ℕ) where
    run_steps : run_from_reset main allowance m ≡ steps_of main allowance begun m
    run_steps = sym (run_entered main allowance begun m refl h refl)

    left_channel : (steps_of main allowance begun m).after.state.channel ≡ 1
    left_channel = stops_keep main allowance (machine begun m) (steps_of main allowance begun m) (run_stops main allowance (machine begun m)) ∙ begun_channel

    -- what it leaves
    pub left_fits : LengthsFit Vif1 (run_from_reset main allowance m).after.memories (run_from_reset main allowance m).after.state.used
    unfolding unit_of if
    left_fits =
        rw run_steps
        (rw left_channel at
        (facts_of {main = main} {s = (steps_of main allowance begun m).after.state} {m = (steps_of main allowance begun m).after.memories} (record { passed = run_accepted main allowance begun m h })).fit)

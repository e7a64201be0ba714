-- Calls on a state block.
use Rattle.std.specs.Prelude.{Result, Ok, Err}
use mathlib.Core.Path.{◌≡◌, refl, ap}
use mathlib.Core.Bool.{true, not, ◌||◌}
use mathlib.Core.Logic.{◌⊎◌}
use mathlib.Core.List.{List}
use Prim.Native.Nat.{ℕ, ◌<◌, ◌≤◌}
use borrow.Author.Tests.{eq-eqb, ne_eqb, lt-ltb, le-ltb}
use lib.ListN.{length}
use lib.Dec.{eqb, ltb}
use Rattle.fields.specs.Counts.{count_numbers}
use Rattle.fields.specs.Fields.{if}
use Rattle.fields.specs.declared.refusals.Refusal.{Refusal}
use Rattle.fields.specs.Refusals.{refusal_number}
use Rattle.fields.proofs.ChoiceLaws.{if_ind}
use Rattle.memories.specs.Lengths.{Lent}
use Rattle.chain_state.specs.declared.State.{State}
use Rattle.chain_state.specs.StartAnswer.{StartAnswer, Started, Refused}
use Rattle.chain.specs.declared.RunResult.{RunResult}
use Rattle.state_block.specs.Sizes.{state_size}
use Rattle.state_block.specs.StateBlock.{state_block, read_state, state_in_block}
use Rattle.chain.specs.Step.{Machine}
use Rattle.chain_state.specs.Start.{reset_state, start_number, started_by, start_of}
use Rattle.chain.specs.Answer.{run_answer}
use Rattle.chain.specs.Run.{number_of, left_by, run_of}
use Rattle.chain.proofs.ResumeLaws.{stopping_changes_nothing}
use Rattle.chain_state.specs.Range.{unit_of}
use Rattle.chain_state.specs.Setters.{with_unit}
use Rattle.console.specs.SetAnswer.{SetAnswer}
use Rattle.console.specs.Register.{set_number, set_of}
use Rattle.console.specs.Block.{unit_held, set_block, set_in_block}
use Rattle.console.proofs.ReadLaws.{block_as_unit}
use Rattle.tejborun.specs.Buffers.{short, wrong_block, written, written_back}
use Rattle.tejborun.specs.Runs.{Blocked, blocked, reset_call, started, start_call, set_call, Left, left, counts_size, run_call}
use Rattle.tejborun.proofs.BufferLaws.{either_short, both_enough}

module _ (block : List ℕ) where
  pub reset_short : (length block ≡ state_size → ⊥) → blocked short block ≡ reset_call block
  unfolding reset_call if
  reset_short h = rw (ne_eqb (length block) state_size h)

  pub reset_done : length block ≡ state_size → {s : State} → s ≡ reset_state → {after : List ℕ} → after ≡ state_block s → blocked 0 after ≡ reset_call block
  unfolding reset_call if
  reset_done h e q = rw (eq-eqb (length block) state_size h, q, e)

module _ (block : List ℕ) (channel tadr tte : ℕ) where
  pub start_short : (length block ≡ state_size → ⊥) → blocked short block ≡ start_call block channel tadr tte
  unfolding start_call if
  start_short h = rw (ne_eqb (length block) state_size h)

  pub start_high : length block ≡ state_size → 1 < tte → blocked 5 block ≡ start_call block channel tadr tte
  unfolding start_call if
  start_high h l = rw (eq-eqb (length block) state_size h, lt-ltb 1 tte l)

  module _ (h : length block ≡ state_size) (l : tte ≤ 1) {s : State} (e : s ≡ (state_in_block block).state) {r : Result State Refusal}
      (q : started_by s r ≡ start_of s channel tadr (eqb tte 1)) where
    pub start_done : {t : State} → r ≡ Ok t → {after : List ℕ} → after ≡ state_block t → blocked 0 after ≡ start_call block channel tadr tte
    unfolding start_call written_back if
    start_done o w = rw (eq-eqb (length block) state_size h, le-ltb 1 tte l, ← e, ← q, o, w)

    pub start_fails : {x : Refusal} → r ≡ Err x → blocked (refusal_number x) block ≡ start_call block channel tadr tte
    unfolding start_call written_back if
    start_fails o = rw (eq-eqb (length block) state_size h, le-ltb 1 tte l, ← e, ← q, o)

  refused_stays : (a : StartAnswer) (s : State) → (start_number a ≡ 0 → ⊥) → written_back (started a) s block ≡ block
  unfolding written_back if
  refused_stays Started s h = absurd (h refl)
  refused_stays (Refused n) s h = refl

  -- demand 1: a start that is refused leaves the block word for word
  pub start_refused : ((start_call block channel tadr tte).answer ≡ 0 → ⊥) → (start_call block channel tadr tte).block ≡ block
  unfolding start_call
  start_refused =
      if_ind (λ (x : Blocked). (x.answer ≡ 0 → ⊥) → x.block ≡ block) (wrong_block block) (λ k. refl)
      (if_ind (λ (x : Blocked). (x.answer ≡ 0 → ⊥) → x.block ≡ block) (ltb 1 tte) (λ k. refl)
      (λ k. refused_stays (start_of (state_in_block block).state channel tadr (eqb tte 1)).answer (start_of (state_in_block block).state channel tadr (eqb tte 1)).state k))

module _ (block : List ℕ) (unit number value : ℕ) where
  pub set_short : (length block ≡ state_size → ⊥) → blocked short block ≡ set_call block unit number value
  unfolding set_call if
  set_short h = rw (ne_eqb (length block) state_size h)

  pub set_done : length block ≡ state_size → {a : SetAnswer} {after : List ℕ} → set_block a after ≡ set_in_block block unit number value
      → {n : ℕ}
      → n ≡ set_number a
      → blocked n after ≡ set_call block unit number value
  unfolding set_call if
  set_done h e q = rw (eq-eqb (length block) state_size h, ← e, q)

  -- request 7, "Runs read the block as it stands": a start or a run after the call, which reads the state of the block, gets the register block that `setOf` leaves
  pub set_seen : unit ≤ 1 → length block ≡ state_size → (state_in_block block).known ≡ true
      → state_in_block (set_call block unit number value).block
      ≡ read_state true
      (with_unit (unit_of unit) (state_in_block block).state (set_of (unit_held unit (state_in_block block).state) number value).block
      (state_in_block block).state.path2 (state_in_block block).state.used)
  unfolding set_call if
  set_seen k h known = rw (eq-eqb (length block) state_size h) (block_as_unit block unit number value k h known).1

module _ (main : List ℕ) (m : Lent) (block : List ℕ) (allowance : ℕ) (result : List ℕ) where
  pub run_short : (length block ≡ state_size → ⊥) ⊎ (length block ≡ state_size) × (length result < counts_size)
      → left short m block result ≡ run_call main m block allowance result
  unfolding run_call if
  run_short h = rw (either_short block result state_size counts_size h)

  pub run_done : length block ≡ state_size → counts_size ≤ length result → {s : State} → s ≡ (state_in_block block).state
      → (x : RunResult) {m' : Lent}
      → left_by x m' ≡ run_of main allowance s m
      → {after : List ℕ}
      → after ≡ written_back (not (eqb x.counts.steps 0)) x.state block
      → {numbers : List ℕ}
      → numbers ≡ written (count_numbers x.counts) result
      → {n : ℕ}
      → n ≡ number_of (run_answer x.answer)
      → left n m' after numbers ≡ run_call main m block allowance result
  unfolding run_call if
  run_done h l e x q b w k = rw (both_enough block result state_size counts_size h l, ← e, ← q, b, w, k)

-- request 9, "an allowance of 0 changes nothing": the block stays word for word, and so do the memories and the log
pub idle_run : (main : List ℕ) (m : Lent) (block result : List ℕ) → ((run_call main m block 0 result).block ≡ block) × ((run_call main m block 0 result).memories ≡ m)
unfolding run_call written_back if
idle_run main m block result =
    let read = state_in_block block in
    let n = stopping_changes_nothing main read.state m 0 0 in (
      if_ind (λ (x : Left). x.block ≡ block) (wrong_block block || ltb (length result) counts_size) refl (rw n.uncounted),
      if_ind (λ (x : Left). x.memories ≡ m) (wrong_block block || ltb (length result) counts_size) refl (ap (λ (x : Machine). x.memories) n.unmoved),
    )

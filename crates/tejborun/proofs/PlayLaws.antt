-- A sheet's chain built in main memory, started and run.
use mathlib.Core.Path.{◌≡◌, refl}
use mathlib.Core.Bool.{Bool, ◌||◌}
use mathlib.Core.Logic.{◌⊎◌}
use mathlib.Core.List.{List, ◌∷◌}
use Prim.Native.Nat.{ℕ, ◌+◌, ◌<◌, ◌≤◌}
use lib.ListN.{length}
use lib.Dec.{ltb}
use Rattle.fields.specs.Counts.{count_numbers}
use Rattle.fields.specs.Fields.{if}
use Rattle.fields.proofs.ChoiceLaws.{if_ind}
use Rattle.memories.specs.Lengths.{Lent}
use Rattle.chain_state.specs.declared.State.{State}
use Rattle.state_block.specs.Sizes.{state_size}
use Rattle.state_block.specs.StateBlock.{state_in_block}
use Rattle.conformance.specs.PlayAnswer.{Refused}
use Rattle.conformance.specs.Play.{Played, play_number, play_of}
use Rattle.tejborun.specs.Buffers.{short, wrong_block, written, written_back}
use Rattle.tejborun.specs.Runs.{counts_size}
use Rattle.tejborun.specs.Play.{play_offset, begun, Left, left, play_call}
use Rattle.tejborun.proofs.BufferLaws.{either_short, both_enough}

module _ (sheet main : List ℕ) (address : ℕ) (m : Lent) (block : List ℕ) (allowance : ℕ) (result : List ℕ) where
  -- demand 1: what is refused before the run leaves the block word for word
  pub play_refused_lem : {n offset : ℕ} → (play_of sheet main address (state_in_block block).state m allowance).answer ≡ Refused n offset
      → (play_call sheet main address m block allowance result).block ≡ block
  unfolding play_call written_back if
  play_refused_lem e = if_ind (λ (x : Left). x.block ≡ block) (wrong_block block || ltb (length result) (1 + counts_size)) refl (rw e)

  pub play_short : (length block ≡ state_size → ⊥) ⊎ (length block ≡ state_size) × (length result < 1 + counts_size)
      → left short main m block result ≡ play_call sheet main address m block allowance result
  unfolding play_call if
  play_short h = rw (either_short block result state_size (1 + counts_size) h)

  pub play_done : length block ≡ state_size → 1 + counts_size ≤ length result → {s : State} → s ≡ (state_in_block block).state
      → {x : Played}
      → x ≡ play_of sheet main address s m allowance
      → {effect : Bool}
      → effect ≡ begun x.answer
      → {after : List ℕ}
      → after ≡ written_back effect x.state block
      → {offset : ℕ}
      → offset ≡ play_offset x.answer
      → {numbers : List ℕ}
      → numbers ≡ written (offset ∷ count_numbers x.counts) result
      → {n : ℕ}
      → n ≡ play_number x.answer
      → left n x.main x.memories after numbers ≡ play_call sheet main address m block allowance result
  unfolding play_call if
  play_done h l e q f b o w k = rw (both_enough block result state_size (1 + counts_size) h l, ← e, ← q, b, f, w, o, k)

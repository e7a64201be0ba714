-- Why a run stopped.
use mathlib.Core.Path.{◌≡◌}
use mathlib.Core.Logic.{◌⊎◌}
use mathlib.Core.List.{List}
use Prim.Native.Nat.{ℕ, ◌<◌, ◌≤◌}
use lib.ListN.{length}
use Rattle.fields.specs.Fields.{if}
use Rattle.memories.specs.Lengths.{Lent}
use Rattle.chain_state.specs.declared.State.{State}
use Rattle.state_block.specs.Sizes.{state_size}
use Rattle.state_block.specs.StateBlock.{state_in_block}
use Rattle.diagnosis.specs.Reason.{Reason}
use Rattle.diagnosis.specs.Why.{why_of, reason_kind, reason_numbers}
use Rattle.tejborun.specs.Buffers.{short, written, answered}
use Rattle.tejborun.specs.Reasons.{why_call}
use Rattle.tejborun.proofs.BufferLaws.{either_short, both_enough}

module _ (main : List ℕ) (m : Lent) (block result : List ℕ) where
  pub why_short : (length block ≡ state_size → ⊥) ⊎ (length block ≡ state_size) × (length result < 4) → answered short result ≡ why_call main m block result
  unfolding why_call if
  why_short h = rw (either_short block result state_size 4 h)

  pub why_done : length block ≡ state_size → 4 ≤ length result → {s : State} → s ≡ (state_in_block block).state → {x : Reason} → x ≡ why_of main s m
      → {numbers : List ℕ} → numbers ≡ reason_numbers x → {after : List ℕ} → after ≡ written numbers result → {n : ℕ} → n ≡ reason_kind x
      → answered n after ≡ why_call main m block result
  unfolding why_call if
  why_done h l e q v w k = rw (both_enough block result state_size 4 h l, ← e, ← q, w, v, k)

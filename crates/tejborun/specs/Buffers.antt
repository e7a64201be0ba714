-- The buffers of a call.
use Rattle.std.specs.Prelude.{ℕ, Bool, not, List, ◌++◌, length, drop, eqb}
use Rattle.fields.specs.Fields.{if}
use Rattle.chain_state.specs.declared.State.{State}
use Rattle.state_block.specs.Sizes.{state_size}
use Rattle.state_block.specs.StateBlock.{state_block}

-- the refusal of a block that is not as long as a state's, or of a result with fewer numbers than the call writes
abbrev pub short : ℕ
short = 60

abbrev pub wrong_block : List ℕ → Bool
wrong_block block = not (eqb (length block) state_size)

-- numbers at the start of a result, those beyond them as they were
unfoldable pub written : List ℕ → List ℕ → List ℕ
written numbers result = numbers ++ drop (length numbers) result

-- a block after a call on the state that was read from it: where the call took effect, the block of the state that it left, else as it was
unfoldable pub written_back : Bool → State → List ℕ → List ℕ
written_back effect state block = if effect (state_block state) block

-- what is left by a call that writes only a result: the answer's number and the result
pub record Answered : Type 0 where
  pub answer : ℕ
  pub result : List ℕ

abbrev pub answered : ℕ → List ℕ → Answered
answered n result = record { answer = n; result = result }

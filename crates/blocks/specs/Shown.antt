-- "A state block that exists in no state is written as it was given."
use Rattle.std.specs.Prelude.{ℕ, List}
use Rattle.fields.specs.Fields.{if}
use Rattle.chain_state.specs.declared.State.{State}
use Rattle.state_block.specs.StateBlock.{state_block, state_in_block}

-- what a result shows where a case gave the block b and the state s is left
unfoldable pub shown_block : List ℕ → State → List ℕ
shown_block b s = if (state_in_block b).known (state_block s) b

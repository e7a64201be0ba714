use native.Mathlib.Omega.{arith}
use Rattle.chain_state.specs.Start.{start_of}
use Rattle.fields.specs.Fields.{if}
use Rattle.chain_state.proofs.control.start.Goals as goal

pub returns-then-start_in_range : goal.returns-then-start_in_range
unfolding start_of if
returns-then-start_in_range c = grind arith

pub returns-else-state_in_range : goal.returns-else-state_in_range
unfolding start_of if
returns-else-state_in_range c = grind arith

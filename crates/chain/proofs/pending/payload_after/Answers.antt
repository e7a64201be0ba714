use native.Mathlib.Omega.{arith}
use Rattle.fields.specs.Fields.{if}
use Rattle.chain_state.specs.Pending.{payload_after}
use Rattle.chain.proofs.pending.payload_after.Goals as goal

pub returns-then-n-k : goal.returns-then-n-k
unfolding payload_after if
returns-then-n-k c = grind arith

pub returns-else-n-k : goal.returns-else-n-k
unfolding payload_after if
returns-else-n-k c = grind arith

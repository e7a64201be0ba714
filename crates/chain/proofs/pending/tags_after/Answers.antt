use native.Mathlib.Omega.{arith}
use Rattle.fields.specs.Fields.{if}
use Rattle.chain_state.specs.Pending.{tags_after}
use Rattle.chain.proofs.pending.tags_after.Goals as goal

pub returns-then-a-eq3 : goal.returns-then-a-eq3
unfolding tags_after if
returns-then-a-eq3 c = grind arith

pub returns-else-a-eq3 : goal.returns-else-a-eq3
unfolding tags_after if
returns-else-a-eq3 c = grind arith

use native.Mathlib.Omega.{arith}
use Rattle.fields.specs.Fields.{if}
use Rattle.chain_state.specs.Range.{unit_of}
use Rattle.chain_state.proofs.range.unit_of.Goals as goal

pub returns-then-channel-eq0 : goal.returns-then-channel-eq0
unfolding unit_of if
returns-then-channel-eq0 c = grind arith

pub returns-else-channel-eq0 : goal.returns-else-channel-eq0
unfolding unit_of if
returns-else-channel-eq0 c = grind arith

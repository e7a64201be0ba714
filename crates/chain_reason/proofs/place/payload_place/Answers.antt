use native.Mathlib.Omega.{arith}
use Rattle.fields.specs.Fields.{if}
use Rattle.chain_reason.proofs.place.payload_place.Goals as goal

pub returns-then-count-eq0 : goal.returns-then-count-eq0
unfolding if
returns-then-count-eq0 c = grind arith

pub returns-else-count-eq0 : goal.returns-else-count-eq0
unfolding if
returns-else-count-eq0 c = grind arith

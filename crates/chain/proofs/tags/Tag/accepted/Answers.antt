use native.Mathlib.Omega.{arith}
use Rattle.chain.specs.Tags.{tag_state}
use Rattle.chain.proofs.tags.Tag.accepted.Goals as goal

pub returns : goal.returns
unfolding tag_state
returns c = grind arith

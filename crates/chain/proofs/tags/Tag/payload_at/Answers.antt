use native.Mathlib.Omega.{arith}
use Rattle.fields.specs.Fields.{if}
use Rattle.chain.specs.Tags.{payload_at}
use Rattle.chain.proofs.tags.Tag.payload_at.Goals as goal

pub returns-in_default : goal.returns-in_default
unfolding payload_at if
returns-in_default c = grind arith

pub returns-in-0 : goal.returns-in-0
unfolding payload_at if
returns-in-0 c = grind arith

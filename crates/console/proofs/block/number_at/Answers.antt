use native.Mathlib.Omega.{arith}
use Rattle.fields.specs.Fields.{if}
use Rattle.console.specs.Block.{number_at}
use Rattle.console.proofs.block.number_at.Goals as goal

pub returns : goal.returns
unfolding number_at if
returns c = grind arith

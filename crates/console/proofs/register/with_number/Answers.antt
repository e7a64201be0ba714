use native.Mathlib.Omega.{arith}
use Rattle.fields.specs.Fields.{if}
use Rattle.console.specs.Register.{number_set}
use Rattle.console.proofs.register.with_number.Goals as goal

pub returns-then-number-lt4 : goal.returns-then-number-lt4
unfolding number_set if
returns-then-number-lt4 c = grind arith

pub returns-else-number-lt4 : goal.returns-else-number-lt4
unfolding number_set if
returns-else-number-lt4 c = grind arith

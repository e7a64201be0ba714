use native.Mathlib.Omega.{arith}
use Rattle.fields.specs.Fields.{if}
use Rattle.console.specs.Register.{set_of}
use Rattle.console.proofs.register.with_register.Goals as goal

pub returns-then-number-gt7 : goal.returns-then-number-gt7
unfolding set_of if
returns-then-number-gt7 c = grind arith

pub returns-then-is_waiting : goal.returns-then-is_waiting
unfolding set_of if
returns-then-is_waiting c = grind arith

pub returns : goal.returns
unfolding set_of if
returns c = grind arith

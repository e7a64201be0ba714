use native.Mathlib.Omega.{arith}
use Rattle.fields.specs.Fields.{if}
use Rattle.chain.specs.Tags.{next_stack}
use Rattle.chain.proofs.tags.Tag.next_stack.Goals as goal

pub returns-in-5 : goal.returns-in-5
unfolding next_stack if
returns-in-5 c = grind arith

pub returns-in-6 : goal.returns-in-6
unfolding next_stack if
returns-in-6 c = grind arith

pub returns-in_default : goal.returns-in_default
unfolding next_stack if
returns-in_default c = grind arith

use Rattle.std.proofs.Common.{rules}
use Rattle.fields.specs.Fields.{if, bits}
use Rattle.vif_reason.specs.Reason.{code_numbers}
use Rattle.vif_reason.proofs.code_numbers.Goals as goal

pub returns-then-refusal-number : goal.returns-then-refusal-number
unfolding code_numbers bits if
returns-then-refusal-number c = search rules

pub returns-then-refusal-number-2 : goal.returns-then-refusal-number-2
unfolding code_numbers bits if
returns-then-refusal-number-2 c = search rules

pub returns-then-refusal-number-3 : goal.returns-then-refusal-number-3
unfolding code_numbers bits if
returns-then-refusal-number-3 c = search rules

pub returns-then-refusal-number-4 : goal.returns-then-refusal-number-4
unfolding code_numbers bits if
returns-then-refusal-number-4 c = search rules

pub returns-then-refusal-number-5 : goal.returns-then-refusal-number-5
unfolding code_numbers bits if
returns-then-refusal-number-5 c = search rules

pub returns-then-refusal-number-6 : goal.returns-then-refusal-number-6
unfolding code_numbers bits if
returns-then-refusal-number-6 c = search rules

pub returns-else-refusal-number-6 : goal.returns-else-refusal-number-6
unfolding code_numbers bits if
returns-else-refusal-number-6 c = search rules

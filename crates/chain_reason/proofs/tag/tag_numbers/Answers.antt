use Rattle.std.proofs.Common.{rules}
use Rattle.fields.specs.Fields.{if, bits}
use Rattle.chain_reason.proofs.CaseLaws.{bit_shown}
use Rattle.chain_reason.specs.Reason.{read_numbers}
use Rattle.chain_reason.proofs.tag.tag_numbers.Goals as goal

pub returns-then-refusal-number : goal.returns-then-refusal-number
unfolding read_numbers bits if
returns-then-refusal-number c = search rules

pub returns-then-refusal-number-2 : goal.returns-then-refusal-number-2
unfolding read_numbers bits if
returns-then-refusal-number-2 c = search rules

pub returns-then-refusal-number-3 : goal.returns-then-refusal-number-3
unfolding read_numbers bits if
returns-then-refusal-number-3 c = search (rules, bit_shown)

pub returns-then-refusal-number-4 : goal.returns-then-refusal-number-4
unfolding read_numbers bits if
returns-then-refusal-number-4 c = search rules

pub returns-then-refusal-number-5 : goal.returns-then-refusal-number-5
unfolding read_numbers bits if
returns-then-refusal-number-5 c = search rules

pub returns-else-refusal-number-5 : goal.returns-else-refusal-number-5
unfolding read_numbers bits if
returns-else-refusal-number-5 c = search rules

use Rattle.std.proofs.Common.{arith}
use Rattle.std.proofs.lemmas.Grind.{common_steps}
use Rattle.fields.specs.Fields.{if}
use Rattle.compare.specs.Boards.{refusal}
use Rattle.compare.proofs.lengths.test_boards.Goals as goal

pub returns-then-parts-eq0 : goal.returns-then-parts-eq0
unfolding refusal if
returns-then-parts-eq0 c = grind (arith, common_steps)

pub returns-then-data_refused : goal.returns-then-data_refused
unfolding refusal if
returns-then-data_refused c = grind (arith, common_steps)

pub returns-then-code_refused : goal.returns-then-code_refused
unfolding refusal if
returns-then-code_refused c = grind (arith, common_steps)

pub returns-then-logs_refused : goal.returns-then-logs_refused
unfolding refusal if
returns-then-logs_refused c = grind (arith, common_steps)

pub returns : goal.returns
unfolding refusal if
returns c = grind (arith, common_steps)

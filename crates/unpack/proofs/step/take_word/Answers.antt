use Rattle.unpack_rules.proofs.StepLaws.{acceptable_fits, taken_as}
use Rattle.unpack_rules.specs.Step.{take_of}
use Rattle.fields.specs.Fields.{if}
use mathlib.Core.Path.{sym, ◌∙◌}
use Rattle.unpack.proofs.step.take_word.Goals as goal

pub take-requires : goal.take-requires
take-requires c = let a = acceptable_fits _ _ _ _ _ (sym c.acceptable_input.ensures ∙ c.if-acceptable_input.true) in (a.cycle, a.unpacking, a.memory)

pub returns-then-acceptable_input : goal.returns-then-acceptable_input
returns-then-acceptable_input c = taken_as _ _ _ _ _ _ _ (sym c.acceptable_input.ensures ∙ c.if-acceptable_input.true) c.take.ensures

pub returns-else-acceptable_input : goal.returns-else-acceptable_input
unfolding take_of if
returns-else-acceptable_input c = rw (sym c.acceptable_input.ensures ∙ c.if-acceptable_input.false)

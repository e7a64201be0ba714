use Rattle.gif.proofs.RangeLaws.{log_fits}
use Rattle.gif.specs.Step.{take_of}
use Rattle.fields.specs.Fields.{if}
use mathlib.Core.Path.{sym, ◌∙◌}
use Rattle.gif.proofs.step.take_quadword.Goals as goal

pub returns-then-log_refused : goal.returns-then-log_refused
unfolding take_of if
returns-then-log_refused c = simp (c.refuse.ensures, sym c.log_refused.ensures ∙ c.if-log_refused.true)

pub step-requires : goal.step-requires
step-requires c = (log_fits _ _ (sym c.log_refused.ensures ∙ c.if-log_refused.false), record { held = sym c.path_in_range.ensures ∙ c.if-path_in_range.true })

pub returns-then-path_in_range : goal.returns-then-path_in_range
unfolding take_of if
returns-then-path_in_range c = rw (sym c.log_refused.ensures ∙ c.if-log_refused.false, sym c.path_in_range.ensures ∙ c.if-path_in_range.true) c.step.ensures

pub returns-else-path_in_range : goal.returns-else-path_in_range
unfolding take_of if
returns-else-path_in_range c = simp (c.refuse-else-path_in_range.ensures, sym c.log_refused.ensures ∙ c.if-log_refused.false, sym c.path_in_range.ensures ∙ c.if-path_in_range.false)

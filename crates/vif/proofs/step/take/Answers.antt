use mathlib.Core.Path.{sym, ◌∙◌}
use Rattle.vif.proofs.StepLaws.{tests_passed, lengths_refused, range_refused_lem, vif_tested}
use Rattle.vif.proofs.step.take.Goals as goal

pub returns-in-Err : goal.returns-in-Err
returns-in-Err c = rw c.answered.ensures (lengths_refused _ _ _ _ _ _ _ c.in-Err.ensures)

pub step-requires : goal.step-requires
step-requires c = tests_passed _ _ _ _ _ c.in_default.ensures c.in_range.ensures c.if-in_range.true

pub returns-then-in_range : goal.returns-then-in_range
returns-then-in_range c =
    c.step.ensures
    ∙ sym (vif_tested _ _ _ _ _ _
    (tests_passed _ _ _ _ _ c.in_default.ensures c.in_range.ensures c.if-in_range.true))

pub returns-else-in_range : goal.returns-else-in_range
returns-else-in_range c =
    rw c.answered-else-in_range.ensures
    (range_refused_lem _ _ _ _ _ _ c.in_default.ensures c.in_range.ensures c.if-in_range.false)

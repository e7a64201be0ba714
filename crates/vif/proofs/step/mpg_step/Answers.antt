use mathlib.Core.Path.{sym, ◌∙◌}
use Rattle.fields.specs.Fields.{if}
use Rattle.vif.specs.Step.{mpg_step}
use Rattle.vif.proofs.step.mpg_step.Goals as goal

pub returns-then-mpg_refused : goal.returns-then-mpg_refused
unfolding mpg_step if
returns-then-mpg_refused c =
    λ mem log. rw (c.answered.ensures, sym c.mpg_refused.ensures ∙ c.if-mpg_refused.true)

pub returns : goal.returns
unfolding mpg_step if
returns c =
    let e = rw (c.instructions-size.ensures.0, c.word.ensures) at c.store_mpg.ensures in
    λ mem log.
    rw (c.word_taken.ensures, c.completed.ensures, c.with_waiting-after.ensures, c.or_nothing.ensures, e, sym c.mpg_refused.ensures ∙ c.if-mpg_refused.false)

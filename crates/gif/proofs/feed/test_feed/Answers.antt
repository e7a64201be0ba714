use mathlib.Core.Path.{sym, ◌∙◌}
use Rattle.fields.specs.Fields.{if}
use Rattle.gif.specs.Feed.{feed_refusal}
use Rattle.gif.proofs.feed.test_feed.Goals as goal

pub returns-then-log_refused : goal.returns-then-log_refused
unfolding feed_refusal if
returns-then-log_refused c = rw (sym c.log_refused.ensures ∙ c.if-log_refused.true)

pub returns-then-not-path_in_range : goal.returns-then-not-path_in_range
unfolding feed_refusal if
returns-then-not-path_in_range c =
    rw (sym c.log_refused.ensures ∙ c.if-log_refused.false, sym c.path_in_range.ensures ∙ c.if-not-path_in_range.true)

pub returns-then-not-lies_inside : goal.returns-then-not-lies_inside
unfolding feed_refusal if
returns-then-not-lies_inside c =
    rw (sym c.log_refused.ensures ∙ c.if-log_refused.false, sym c.path_in_range.ensures ∙ c.if-not-path_in_range.false, sym c.lies_inside.ensures ∙ c.if-not-lies_inside.true)

pub returns : goal.returns
unfolding feed_refusal if
returns c =
    rw (sym c.log_refused.ensures ∙ c.if-log_refused.false, sym c.path_in_range.ensures ∙ c.if-not-path_in_range.false, sym c.lies_inside.ensures ∙ c.if-not-lies_inside.false)

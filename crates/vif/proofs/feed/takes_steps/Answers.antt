use mathlib.Core.Path.{sym, ◌∙◌}
use Rattle.vif.specs.Feed.{takes_steps}
use Rattle.vif.proofs.FeedLaws.{lengths_ok}
use Rattle.vif.proofs.feed.takes_steps.Goals as goal

pub returns-then-is_ok : goal.returns-then-is_ok
unfolding takes_steps
returns-then-is_ok c = rw (lengths_ok _ c.test_lengths.ensures, sym c.is_ok.ensures.value ∙ c.if-is_ok.true) c.in_range.ensures

pub returns-else-is_ok : goal.returns-else-is_ok
unfolding takes_steps
returns-else-is_ok c = rw (lengths_ok _ c.test_lengths.ensures, sym c.is_ok.ensures.value ∙ c.if-is_ok.false) c.if-is_ok.false

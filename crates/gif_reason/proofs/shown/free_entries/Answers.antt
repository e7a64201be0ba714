use Rattle.gif_reason.specs.Reason.{free_entries}
use Rattle.gif_reason.proofs.shown.free_entries.Goals as goal

pub returns : goal.returns
unfolding free_entries
returns c = c.saturating_sub.ensures

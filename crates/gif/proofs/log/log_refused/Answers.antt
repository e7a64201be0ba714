use Rattle.std.proofs.Common.{rules}
use Rattle.gif.proofs.LogLaws.{entries_below}
use Rattle.gif.specs.Log.{log_refused}
use Rattle.gif.proofs.log.log_refused.Goals as goal

pub returns-then-n-gt-LOG_MOST : goal.returns-then-n-gt-LOG_MOST
unfolding log_refused
returns-then-n-gt-LOG_MOST c = search rules

pub returns-else-n-gt-LOG_MOST : goal.returns-else-n-gt-LOG_MOST
unfolding log_refused
returns-else-n-gt-LOG_MOST c = search (rules, entries_below)

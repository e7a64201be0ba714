use Rattle.gif.proofs.LogLaws.{commit_full, commit_fits}
use mathlib.Core.Path.{refl}
use Rattle.gif.proofs.log.finish.Goals as goal

pub returns-then-log-used : goal.returns-then-log-used
returns-then-log-used c = commit_full _ _ _ _ _ _ _ c.count-n.ensures c.if-log-used.true

pub returns : goal.returns
returns c =
    rw c.append-entries.ensures.0 (commit_fits _ _ _ _ _ _ _ refl (rw c.count-n.ensures at c.if-log-used.false) c.append-entries.ensures.1)

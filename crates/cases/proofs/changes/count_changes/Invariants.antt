use Rattle.cases.proofs.ChangeLaws.{Counting}
use Rattle.cases.proofs.changes.count_changes.Given as goal

abbrev pub invariant-loop-i : goal.invariant-loop-i
invariant-loop-i g l =
    Counting (g.T.Shown.number l.memory) (g.T.Shown.number l.before) (g.T.Shown.count l.before) l.count l.i

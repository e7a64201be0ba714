use Rattle.std.proofs.Common.{get_or}
use Rattle.cases.proofs.Laws.{Storing}
use Rattle.cases.proofs.changes.keep.Given as goal

abbrev pub invariant-loop-i : goal.invariant-loop-i
invariant-loop-i g l = Storing (λ i. get_or l.memory i (g.T.Number.low 0)) l.initial.before l.before l.i

use Rattle.cases.proofs.Laws.{Summing}
use Rattle.cases.proofs.sums.sum.Given as goal

abbrev pub invariant-loop-x : goal.invariant-loop-x
invariant-loop-x g l = Summing g.T.Number.wide l.memory l.sum l.x-index

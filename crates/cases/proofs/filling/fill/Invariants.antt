use Rattle.cases.proofs.Laws.{Filling}
use Rattle.cases.proofs.filling.fill.Given as goal

abbrev pub invariant-loop-place : goal.invariant-loop-place
invariant-loop-place g l = Filling g.T.Number.low l.first l.initial.memory l.memory l.x l.place-index

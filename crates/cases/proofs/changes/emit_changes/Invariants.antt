use Rattle.cases.specs.Changes.{changes_from}
use Rattle.cases.proofs.Laws.{Sending}
use Rattle.cases.proofs.changes.emit_changes.Given as goal

abbrev pub invariant-loop-i : goal.invariant-loop-i
invariant-loop-i g l =
    let s = g.T.Shown in
    Sending (changes_from s.words (s.number l.memory) (s.number l.before)) (s.count l.before) l.initial.out l.out l.i

use Rattle.cases.specs.Runs.{Runs}
use Rattle.cases.proofs.run.run_cases.Given as goal

abbrev pub invariant-loop-number : goal.invariant-loop-number
invariant-loop-number g l =
    let r = Runs g.H.Headers.got g.C.Case.ran in
    (h b c : _) → r l.number l.headers l.header l.case l.out h b c → r 0 l.initial.headers l.initial.header l.initial.case l.initial.out h b c

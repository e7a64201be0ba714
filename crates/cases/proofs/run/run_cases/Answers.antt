use Rattle.std.proofs.Common.{◌≡◌, ◌∙◌, sym, arith}
use Rattle.cases.specs.Runs.{counted, ended, short}
use Rattle.cases.proofs.RunLaws.{run_on, run_damaged}
use Rattle.cases.proofs.run.run_cases.Goals.{then-got-header-via-then-got-header, then-got-header-via-else-got-header+then-is_err}
use Rattle.cases.proofs.run.run_cases.Goals as goal

pub returns-then-got-eq0-clause-in_turn : goal.returns-then-got-eq0-clause-in_turn
returns-then-got-eq0-clause-in_turn g c =
    let read = c.read-got.new in
    let last = ended (rw c.if-got-eq0.true at c.read-got.ensures) in
    rw c.new-out.ensures at c.loop-number.invariant read.self read.header c.loop-number.case last

pub returns-then-got-header-clause-in_turn : goal.returns-then-got-header-clause-in_turn
returns-then-got-header-clause-in_turn g c =
    let read = c.read-got.new in
    elim c.then-got-header.branch [
      | then-got-header-via-then-got-header w ↦
          let last = short c.read-got.ensures (omega arith) w.if-got-header.true in
          rw (w.case-is, ← c.new-out.ensures) (c.loop-number.invariant read.self read.header c.loop-number.case last)
      | then-got-header-via-else-got-header+then-is_err w ↦
          let r = w.run in
          let last = run_damaged r.new.out r.result (sym w.is_err.ensures.value ∙ w.if-is_err.true) c.read-got.ensures (omega arith) (omega arith) r.ensures in
          rw (w.case-is, ← c.new-out.ensures) (c.loop-number.invariant read.self read.header r.new.self last)
    ]

pub loop-number-preserved : goal.loop-number-preserved
loop-number-preserved g c =
    λ h b l rest.
    c.loop-number.invariant h b l
    (run_on c.run.result (sym c.is_err.ensures.value ∙ c.if-is_err.false) c.read-got.ensures (omega arith) (omega arith) c.run.ensures rest)

pub returns-clause-in_turn : goal.returns-clause-in_turn
returns-clause-in_turn g c =
    let l = c.loop-number in
    let end : l.number ≡ 18446744073709551615 = omega arith in
    rw c.new-out.ensures at l.invariant l.headers l.header l.case (rw end counted)

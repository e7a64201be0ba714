use Rattle.std.proofs.Common.{arith}
use Rattle.cases.proofs.ChangeLaws.{changes_on, same_change, other_change}
use Rattle.cases.proofs.changes.emit_changes.Goals.{then-number, else-number}
use Rattle.cases.proofs.changes.emit_changes.Goals as goal

pub loop-i-preserved : goal.loop-i-preserved
loop-i-preserved g c =
    let s = g.T.Shown in
    let x = c.number.result in
    let y = c.number-in-loop-i.result in
    changes_on s.words (s.number c.args.memory.now) (s.number c.args.before.now) c.loop-i.invariant (omega (arith, c.count-i-end.ensures.value)) c.number.ensures c.number-in-loop-i.ensures
    (elim c.if-number.branch [
      | then-number w ↦
          let e = rw (← c.number.ensures) at w.emit-then-number.ensures in
          rw w.out-is (other_change c.loop-i.out c.loop-i.i x y (s.words x) w.if-number.true w.low_word.ensures w.emit.ensures e)
      | else-number w ↦ rw w.out-is (same_change c.loop-i.out c.loop-i.i x y (s.words x) w.if-number.false)
    ])

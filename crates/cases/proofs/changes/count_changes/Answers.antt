use Rattle.std.proofs.Common.{arith}
use Rattle.cases.proofs.ChangeLaws.{counts_on, counts_differ}
use Rattle.cases.proofs.changes.count_changes.Goals as goal

pub loop-i-preserved : goal.loop-i-preserved
loop-i-preserved g c = counts_on c.loop-i.invariant (omega (arith, c.count-i-end.ensures.value)) c.number.ensures c.number-in-loop-i.ensures (rw (c.from-count.ensures, counts_differ))

use Rattle.std.proofs.Common.{arith}
use Rattle.cases.proofs.Laws.{numbers_on}
use Rattle.cases.proofs.whole.emit_bytes.Goals as goal

pub loop-k-preserved : goal.loop-k-preserved
loop-k-preserved c = numbers_on c.loop-k.invariant (omega (arith, c.div_ceil-k-end.ensures)) c.byte_word.ensures c.put-at.ensures

use Rattle.std.proofs.Common.{arith}
use Rattle.cases.proofs.Laws.{stores_begin, stores_on}
use Rattle.cases.proofs.input.read_words.Goals as goal

pub loop-i-init : goal.loop-i-init
loop-i-init c = stores_begin

pub loop-i-preserved : goal.loop-i-preserved
loop-i-preserved c = stores_on c.loop-i.invariant (omega arith) c.word_at.ensures

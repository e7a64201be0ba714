use Rattle.std.proofs.Common.{arith}
use Rattle.cases.proofs.Laws.{stores_begin, stores_on}
use Rattle.cases.proofs.changes.keep.Goals as goal

pub loop-i-init : goal.loop-i-init
loop-i-init g c = stores_begin

pub loop-i-preserved : goal.loop-i-preserved
loop-i-preserved g c = stores_on c.loop-i.invariant (omega arith) c.number_in.ensures

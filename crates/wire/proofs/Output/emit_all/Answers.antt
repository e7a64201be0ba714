use Rattle.wire.proofs.Laws.{sent_more}
use Rattle.wire.proofs.Output.emit_all.Goals as goal

pub loop-x-preserved : goal.loop-x-preserved
loop-x-preserved g c = sent_more _ _ _ _ _ _ c.loop-x-test.true c.x-item.is c.loop-x.invariant c.put_to-at.ensures

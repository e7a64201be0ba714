use Rattle.chain.proofs.BurstLaws.{advance_burst, empty_ready, advance_one}
use Rattle.chain.proofs.execution.advance.Goals as goal

pub step-requires : goal.step-requires
step-requires c = empty_ready c.burst-b.ensures c.if-b-eq0.true c.requires.0

pub returns-then-b-eq0 : goal.returns-then-b-eq0
returns-then-b-eq0 c = advance_one c.burst-b.ensures c.if-b-eq0.true c.requires.1.0 c.requires.1.1 _ c.step.ensures

pub returns : goal.returns
returns c = rw c.of_unit.ensures (advance_burst c.burst-b.ensures c.if-b-eq0.false)

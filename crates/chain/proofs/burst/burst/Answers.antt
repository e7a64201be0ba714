use Rattle.chain.proofs.BurstLaws.{burst_none}
use Rattle.chain.proofs.burst.burst.Goals as goal

pub returns-in-Some : goal.returns-in-Some
returns-in-Some c = rw c.no_burst.ensures (burst_none _ _ _)

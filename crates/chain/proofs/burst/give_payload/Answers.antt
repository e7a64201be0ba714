use Rattle.chain.proofs.ReadyLaws.{payload_next}
use Rattle.chain.proofs.BurstLaws.{burst_none}
use Rattle.chain.proofs.burst.give_payload.Goals as goal

pub give_quadwords-requires : goal.give_quadwords-requires
give_quadwords-requires c = payload_next c.requires.0 c.requires.1 c.in-Words.is c.if-count-eq0.false c.if-s-eq2.true

pub give_words-requires : goal.give_words-requires
give_words-requires c = payload_next c.requires.0 c.requires.1 c.in-Words.is c.if-count-eq0.false c.if-s-eq2.false

pub returns-in-Nothing : goal.returns-in-Nothing
returns-in-Nothing c = rw c.no_burst.ensures (burst_none _ _ _)

pub returns-then-count-eq0 : goal.returns-then-count-eq0
returns-then-count-eq0 c = rw c.no_burst-then-count-eq0.ensures (burst_none _ _ _)

pub returns-then-s-eq2 : goal.returns-then-s-eq2
returns-then-s-eq2 c = c.give_quadwords.ensures _ _

use Rattle.vif.proofs.BurstLaws.{quadwords_taken}
use Rattle.vif.proofs.bursts.quadwords.Goals as goal

pub returns : goal.returns
returns c = quadwords_taken c.quadwords_at_once-n.ensures c.take_quadwords.ensures

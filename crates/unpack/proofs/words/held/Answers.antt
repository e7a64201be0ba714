use Rattle.unpack.proofs.words.held.Goals as goal

pub returns : goal.returns
returns c = rw c.saturating_sub.ensures

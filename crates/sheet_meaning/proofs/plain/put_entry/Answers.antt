use Rattle.gif.proofs.LogLaws.{entry_put}
use Rattle.sheet_meaning.proofs.plain.put_entry.Goals as goal

pub returns : goal.returns
returns c = entry_put _ _ _ c.write_entry.ensures c.requires

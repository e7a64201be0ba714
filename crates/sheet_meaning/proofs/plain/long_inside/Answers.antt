use Rattle.std.proofs.Common.{rules}
use Rattle.fields.specs.Memory.{long_at}
use Rattle.sheet_meaning.proofs.plain.long_inside.Goals as goal

pub returns : goal.returns
unfolding long_at
returns c = search rules

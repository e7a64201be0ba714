use Rattle.std.proofs.Common.{rules}
use Rattle.fields.specs.Memory.{word_at, long_at}
use Rattle.gif.proofs.memory.long_inside.Goals as goal

pub returns : goal.returns
unfolding long_at word_at
returns c = search rules

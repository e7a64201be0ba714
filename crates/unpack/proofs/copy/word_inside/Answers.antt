use Rattle.std.proofs.Common.{rules}
use Rattle.fields.specs.Memory.{word_at}
use Rattle.unpack.proofs.copy.word_inside.Goals as goal

pub returns : goal.returns
unfolding word_at
returns c = search rules

use Rattle.std.proofs.Common.{arith}
use Rattle.fields.proofs.PartLaws.{words_out, words_part}
use Rattle.fields.proofs.put_words.Goals as goal

pub returns-then-at-block : goal.returns-then-at-block
returns-then-at-block c = words_part _ _ _ _ _ c.if-at-block.true c.min-n.ensures (omega arith) c.copy_from_slice.ensures.after

pub returns-else-at-block : goal.returns-else-at-block
returns-else-at-block c = words_out _ _ _ c.if-at-block.false

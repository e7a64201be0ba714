use Rattle.unpack.proofs.CopyLaws.{four_read}
use Rattle.unpack.proofs.copy.quad_inside.Goals as goal

pub returns : goal.returns
returns c = four_read _ _ c.word_inside.ensures c.word_inside-2.ensures c.word_inside-3.ensures c.word_inside-4.ensures

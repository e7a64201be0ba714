use Rattle.unpack_rules.proofs.WordsLaws.{words_zero}
use Rattle.unpack.proofs.words.take_few.Goals as goal

pub returns-then-n-eq0 : goal.returns-then-n-eq0
returns-then-n-eq0 c = words_zero _ _ _ _ _ _ _ c.if-n-eq0.true

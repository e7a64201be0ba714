use Rattle.unpack.proofs.ShortLaws.{copy_nothing, words_copy}
use Rattle.unpack.proofs.short.end_vector.Goals as goal

pub returns-then-n-ne0 : goal.returns-then-n-ne0
returns-then-n-ne0 c = words_copy c.take_singly.ensures

pub returns-else-n-ne0 : goal.returns-else-n-ne0
returns-else-n-ne0 c = copy_nothing _ _ _ c.if-n-ne0.false

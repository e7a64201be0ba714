use Rattle.gif.specs.Tag.{data_closes}
use Rattle.gif.specs.Inner.{many_close}
use borrow.Author.Rules.{rules}
use Rattle.gif.proofs.HeldTag.data_closes.Goals as goal

pub returns : goal.returns
unfolding data_closes many_close
returns c = search rules

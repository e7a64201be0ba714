use Rattle.std.proofs.Common.{rules}
use Rattle.gif.specs.Inner.{many_close}
use Rattle.gif.proofs.HeldTag.many_close.Goals as goal

pub returns-then-self : goal.returns-then-self
unfolding many_close
returns-then-self c = search rules

pub returns-else-self : goal.returns-else-self
unfolding many_close
returns-else-self c = search rules

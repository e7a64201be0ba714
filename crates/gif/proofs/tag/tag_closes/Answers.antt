use Rattle.std.proofs.Common.{rules}
use Rattle.gif.specs.Tag.{tag_closes}
use Rattle.gif.proofs.TagLaws.{nloop_at, eop_at}
use Rattle.gif.proofs.tag.tag_closes.Goals as goal

pub returns-then-quad-eq1 : goal.returns-then-quad-eq1
unfolding tag_closes
returns-then-quad-eq1 c = let x = c.args.quad in rw (nloop_at x.low x.high (search rules), eop_at x.low x.high (search rules)) (search rules)

pub returns-else-quad-eq1 : goal.returns-else-quad-eq1
unfolding tag_closes
returns-else-quad-eq1 c = let x = c.args.quad in rw (nloop_at x.low x.high (search rules), eop_at x.low x.high (search rules)) (search rules)

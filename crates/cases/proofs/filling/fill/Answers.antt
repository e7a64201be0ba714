use Rattle.std.proofs.Common.{arith}
use Rattle.cases.proofs.Laws.{fills_begin, fills_on, stores_end}
use Rattle.cases.proofs.filling.fill.Goals as goal

pub loop-place-init : goal.loop-place-init
loop-place-init g c = fills_begin g.T.Number.low c.args.first c.ranges.first.fits

pub loop-place-preserved : goal.loop-place-preserved
loop-place-preserved g c =
    fills_on g.T.Number.low c.args.first g.met.T.Number.wraps c.loop-place.invariant (omega arith) c.low.ensures

pub returns : goal.returns
returns g c = stores_end c.loop-place.invariant.stored (omega arith)

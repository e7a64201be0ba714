use native.Mathlib.Omega.{arith}
use Rattle.compare.proofs.WithinLaws.{last_below, range_inside, range_compared, range_unasked}
use Rattle.compare.proofs.within.quadwords_within.Goals as goal

pub overflow_add-n : goal.overflow_add-n
overflow_add-n c =
    let h = last_below _ _ _ _ c.requires c.data_part.ensures.0 c.asks.ensures c.if-asks.true in
    omega arith

pub found_from-requires : goal.found_from-requires
found_from-requires c =
    range_inside _ _ _ _ c.requires c.data_part.ensures.0 c.asks.ensures c.if-asks.true

pub returns-then-asks : goal.returns-then-asks
returns-then-asks c =
    range_compared _ _ _ _ c.requires c.data_part.ensures.0 c.asks.ensures c.if-asks.true c.found_from.ensures

pub returns : goal.returns
returns c =
    range_unasked _ _ _ _ c.requires c.data_part.ensures.0 c.asks.ensures c.if-asks.false

use Rattle.std.proofs.Common.{◌≡◌}
use Rattle.compare.specs.Inner.{found_by, unequal}
use Rattle.compare.proofs.elements.found_in.Given as goal

abbrev pub invariant-loop-i : goal.invariant-loop-i
invariant-loop-i g l = l.found ≡ found_by (unequal g.T.PartialEq.eq l.size l.a l.b) l.i

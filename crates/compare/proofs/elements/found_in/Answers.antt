use Rattle.std.proofs.Common.{refl, arith}
use Rattle.compare.specs.Tests.{first_of, how_many}
use Rattle.compare.specs.Inner.{found_by}
use Rattle.compare.proofs.ElementLaws.{found_small, element_passed}
use Rattle.compare.proofs.elements.found_in.Goals as goal

pub loop-i-init : goal.loop-i-init
unfolding found_by first_of how_many
loop-i-init g c = refl

pub after-found-requires : goal.after-found-requires
after-found-requires g c = let p = found_small _ _ c.loop-i.invariant in (p, omega arith)

pub loop-i-preserved : goal.loop-i-preserved
loop-i-preserved g c = element_passed _ _ c.loop-i.invariant c.ne.ensures c.after-found.ensures

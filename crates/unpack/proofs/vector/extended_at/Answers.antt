use native.Mathlib.Omega.{arith}
use Rattle.unpack_rules.proofs.PayloadLaws.{width_some}
use Rattle.unpack.proofs.vector.extended_at.Goals as goal

pub extend-requires : goal.extend-requires
extend-requires c = let w = width_some c.requires.width_known in (omega arith, w.1, c.element_at.ensures.1)

pub returns : goal.returns
returns c = rw (← c.element_at.ensures.0) c.extend.ensures

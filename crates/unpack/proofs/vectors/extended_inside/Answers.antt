use native.Mathlib.Omega.{arith}
use Rattle.unpack_rules.proofs.PayloadLaws.{width_some}
use Rattle.unpack.proofs.vectors.extended_inside.Goals as goal

pub extend-requires : goal.extend-requires
extend-requires c = let w = width_some c.requires.0 in (omega arith, w.1, c.element_inside.ensures.1)

pub returns : goal.returns
returns c = rw (← c.element_inside.ensures.0) c.extend.ensures

use native.Mathlib.Omega.{arith}
use Rattle.unpack_rules.proofs.PayloadLaws.{width_some}
use Rattle.unpack_rules.proofs.VectorLaws.{shifted, width_power}
use Rattle.unpack.proofs.VectorsLaws.{cut}
use Rattle.unpack.proofs.vectors.element_inside.Goals as goal

pub overflow_shl-result : goal.overflow_shl-result
overflow_shl-result c = let w = width_some c.requires.0 in omega arith

pub nonzero_rem-result : goal.nonzero_rem-result
nonzero_rem-result c = let p = width_power c.requires.0 in rw (shifted c.requires.0) (omega arith)

pub returns : goal.returns
returns c = rw c.from.ensures (cut c.requires.0 _ c.word_inside.ensures)

use native.Mathlib.Omega.{arith}
use Rattle.unpack_rules.specs.Payload.{whole_vectors}
use Rattle.unpack_rules.proofs.PayloadLaws.{bits_some}
use Rattle.unpack.proofs.payload.whole_vectors.Goals as goal

pub nonzero_div-words : goal.nonzero_div-words
nonzero_div-words c = let b = bits_some c.args.f in omega (arith, c.vector_bits.ensures)

pub returns : goal.returns
unfolding whole_vectors
returns c = rw (← c.vector_bits.ensures) c.min.ensures

use native.Mathlib.Omega.{arith}
use Rattle.unpack_rules.specs.Payload.{payload_words}
use Rattle.unpack_rules.proofs.PayloadLaws.{payload_fits}
use Rattle.unpack.proofs.payload.payload_words.Goals as goal

pub overflow_mul-count : goal.overflow_mul-count
overflow_mul-count c = let m = payload_fits c.args.f c.args.count c.requires in rw c.vector_bits.ensures (omega arith)

pub returns : goal.returns
unfolding payload_words
returns c = rw (← c.vector_bits.ensures) (omega (arith, c.div_ceil.ensures))

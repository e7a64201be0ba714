use Rattle.unpack_rules.specs.Payload.{vector_bits}
use Rattle.unpack_rules.proofs.Format.vector_bits.Goals as goal

pub returns : goal.returns
unfolding vector_bits
returns c = rw (c.elements.ensures, c.element_bits.ensures)

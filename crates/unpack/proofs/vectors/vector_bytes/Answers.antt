use Rattle.unpack.specs.Vectors.{vector_bytes}
use Rattle.unpack.proofs.vectors.vector_bytes.Goals as goal

pub returns : goal.returns
unfolding vector_bytes
returns c = rw c.vector_bits.ensures

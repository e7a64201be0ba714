use Rattle.unpack_rules.proofs.PayloadLaws.{starts_inside, vector_fits}
use Rattle.unpack_rules.specs.Step.{held_vector}
use Rattle.unpack.proofs.step.held_vector.Goals as goal

pub overflow_sub-at : goal.overflow_sub-at
overflow_sub-at c = rw c.vector_bits.ensures (starts_inside c.args.f c.args.k c.args.i c.requires.0)

pub vector-requires : goal.vector-requires
vector-requires c = rw c.vector_bits.ensures (vector_fits c.args.f c.args.k c.args.i c.requires.0)

pub returns : goal.returns
unfolding held_vector
returns c = rw (← c.vector_bits.ensures) c.vector.ensures

use Rattle.gif.proofs.DataLaws.{packed_refused, packed_taken}
use Rattle.gif.proofs.step.take_packed.Goals as goal

pub returns-then-descriptor-eq11 : goal.returns-then-descriptor-eq11
returns-then-descriptor-eq11 c =
    packed_refused _ _ _ _ _ _ c.taken.ensures c.descriptor_at-descriptor.ensures c.if-descriptor-eq11.true c.refuse.ensures

pub returns : goal.returns
returns c =
    packed_taken _ _ _ _ _ _ c.taken.ensures c.descriptor_at-descriptor.ensures c.if-descriptor-eq11.false c.packed_q-q.ensures c.packed_writes-writes.ensures c.finish_data.ensures

use Rattle.unpack_rules.proofs.StepLaws.{writes_fit, vectors_small, cycle_taken, completed_by}
use Rattle.unpack.proofs.step.write_completed.Goals as goal

pub writes_done-requires : goal.writes_done-requires
writes_done-requires c = let x = c.requires in (x.cycle, cycle_taken x, (vectors_small x).0, (vectors_small x).2)

pub writes_done-requires-2 : goal.writes_done-requires-2
writes_done-requires-2 c = let x = c.requires in (x.cycle, cycle_taken x, (vectors_small x).1, (vectors_small x).3)

pub write_vectors-requires : goal.write_vectors-requires
write_vectors-requires c =
    (writes_fit c.requires c.writes_done.ensures c.writes_done-2.ensures c.acting_registers.ensures, c.requires.unpacking.inside)

pub returns : goal.returns
returns c =
    completed_by _ _ _ _ _ _ _ _ _ c.writes_done.ensures c.writes_done-2.ensures c.acting_registers.ensures c.write_vectors.ensures

use Rattle.unpack_rules.proofs.WriteLaws.{plain_place}
use Rattle.unpack.proofs.write.Writes.position.Goals as goal

pub returns : goal.returns
returns c =
    rw (plain_place _ _ _ _ _ c.requires.1, ← c.cycles_before.ensures, ← c.place_in_cycle.ensures)
    c.wrapped.ensures

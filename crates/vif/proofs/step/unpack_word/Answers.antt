use Rattle.vif.proofs.StepLaws.{unpacked_some, unpacked}
use Rattle.vif.proofs.step.unpack_word.Goals as goal

pub unwrap-row-requires : goal.unwrap-row-requires
unwrap-row-requires c =
    let x = c.args in
    unpacked_some x.which x.unit x.f x.u x.word _ c.requires _ _ c.write_registers-registers.ensures (rw c.quadwords-size.ensures.0 at c.take_word.ensures)

pub returns : goal.returns
returns c =
    λ code log.
    let x = c.args in
    rw c.word_taken.ensures
    (unpacked x.which x.unit x.f x.u x.word _ c.requires _ _ c.write_registers-registers.ensures (rw c.quadwords-size.ensures.0 at c.take_word.ensures)
    x.path2 x.used code log c.unwrap-row.ensures (rw (c.with_waiting-after.ensures, c.with_row.ensures, c.or_nothing.ensures, c.held.ensures)) c.completed.ensures)

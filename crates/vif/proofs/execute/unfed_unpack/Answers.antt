use Rattle.vif_codes.proofs.CodeLaws.{unfed_some, unfed_done}
use Rattle.vif.proofs.execute.unfed_unpack.Goals as goal

pub unwrap-row-requires : goal.unwrap-row-requires
unwrap-row-requires c =
    let x = c.args in
    unfed_some x.which x.f x.u x.unit _ c.requires _ _ c.write_registers-registers.ensures (rw c.quadwords-size.ensures.0 at c.write_without_payload.ensures)

pub returns : goal.returns
returns c =
    λ log.
    let x = c.args in
    unfed_done x.which x.f x.u x.unit _ c.requires _ _ c.write_registers-registers.ensures (rw c.quadwords-size.ensures.0 at c.write_without_payload.ensures)
    x.interrupt x.used log c.unwrap-row.ensures c.with_row.ensures c.done.ensures

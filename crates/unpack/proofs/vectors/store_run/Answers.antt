use Rattle.unpack.proofs.vectors.store_run.Goals as goal

pub store_scalars_by-requires : goal.store_scalars_by-requires
store_scalars_by-requires c =
    let h = c.requires in
    (h.0, h.1, c.element_bits.ensures, c.is_scalar.ensures c.if-is_scalar.true)

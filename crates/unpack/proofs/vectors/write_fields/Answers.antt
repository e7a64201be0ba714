use Rattle.unpack.proofs.VectorsLaws.{side_by_side}
use Rattle.unpack.proofs.vectors.write_fields.Goals as goal

pub returns : goal.returns
returns c =
    (c.next_rows.ensures, side_by_side _ _ _ _ _ _ _ c.quad_of-old.ensures c.next_fields-words.ensures c.store_quadword.ensures)

use Rattle.std.proofs.Common.{arith}
use Rattle.sheet.proofs.ListLaws.{part_length, part_copied}
use Rattle.sheet.proofs.LayoutLaws.{lead_length, record_quadwords_lem}
use Rattle.sheet_builder.proofs.StoreLaws.{record_stores}
use Rattle.sheet_builder.proofs.writer.put_record.Goals as goal

pub returns : goal.returns
returns c =
    let r = c.args.found in
    let h = lead_length r.kind r.count r.address in
    let q = record_quadwords_lem r.kind r.count in
    let size = c.body_length-size.ensures in
    let copied = part_copied c.args.sheet.now c.put_lead-to.new.output c.args.body c.put_lead-to.result c.body_length-size.result (omega arith) (omega arith) c.copy_bytes.ensures in (
      omega arith,
      record_stores _ _ _ _ _ _ (part_length _ _ _ c.requires.inside) c.put_lead-to.ensures.0 c.put_lead-to.ensures.1 (rw size at copied) (rw size at c.put_padding.ensures.1),
    )

use Rattle.unpack_rules.proofs.WriteLaws.{stored}
use Rattle.unpack.proofs.write.put_fields.Goals as goal

pub returns : goal.returns
returns c = stored _ _ _ _ _ _ _ c.put_field.ensures c.put_field-2.ensures c.put_field-3.ensures c.put_field-4.ensures

use Rattle.unpack_rules.specs.Write.{put_field}
use Rattle.unpack.proofs.write.put_field.Goals as goal

pub returns : goal.returns
unfolding put_field
returns c = rw c.field.ensures

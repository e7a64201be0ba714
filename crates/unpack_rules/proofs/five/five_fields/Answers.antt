use Rattle.std.proofs.Common.{div-one}
use Rattle.fields.specs.Fields.{bits}
use Rattle.unpack_rules.specs.Vector.{five_fields}
use Rattle.unpack_rules.proofs.five.five_fields.Goals as goal

pub returns : goal.returns
unfolding five_fields bits
returns c = simp div-one

use Rattle.vif_codes.specs.Codes.{decode_of}
use Rattle.fields.specs.Fields.{bits}
use native.Mathlib.Nat.{div-one}
use Rattle.vif_codes.proofs.decoding.decode.Goals as goal

pub returns : goal.returns
unfolding decode_of bits
returns c = simp div-one c.code_of.ensures

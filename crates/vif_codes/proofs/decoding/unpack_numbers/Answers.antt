use Rattle.vif_codes.specs.Codes.{unpack_numbers}
use Rattle.fields.specs.Fields.{bits}
use native.Mathlib.Nat.{div-one}
use Rattle.vif_codes.proofs.decoding.unpack_numbers.Goals as goal

pub returns : goal.returns
unfolding unpack_numbers bits
returns c = simp div-one

use Rattle.fields.proofs.FieldLaws.{bits_first, bits_low}
use Rattle.gif.specs.Packed.{uv}
use native.Mathlib.Omega.{arith}
use Rattle.gif.proofs.packed.uv_value.Goals as goal

pub returns : goal.returns
unfolding uv
returns c = let l = c.args.quad.low in let h = c.args.quad.high in
    simp (bits_first l h 13 (omega arith), bits_low l h 32 45 (omega arith) (omega arith))

use Rattle.fields.proofs.FieldLaws.{bits_first, bits_low, bits_high}
use Rattle.gif.specs.Packed.{xyzf}
use native.Mathlib.Omega.{arith}
use borrow.Author.Rules.{rules}
use Rattle.gif.proofs.packed.xyzf_value.Goals as goal

pub returns : goal.returns
unfolding xyzf
returns c = let l = c.args.quad.low in let h = c.args.quad.high in
    simp (bits_first l h 15 (omega arith), bits_low l h 32 47 (omega arith) (omega arith), bits_high l h (search rules) 68 91 (omega arith), bits_high l h (search rules) 100 107 (omega arith))

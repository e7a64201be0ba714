use Rattle.fields.proofs.FieldLaws.{bits_first, bits_low, bits_middle}
use Rattle.gif.specs.Packed.{xyz}
use native.Mathlib.Omega.{arith}
use borrow.Author.Rules.{rules}
use Rattle.gif.proofs.packed.xyz_value.Goals as goal

pub returns : goal.returns
unfolding xyz
returns c = let l = c.args.quad.low in let h = c.args.quad.high in
    simp (bits_first l h 15 (omega arith), bits_low l h 32 47 (omega arith) (omega arith), bits_middle l h (search rules) 95)

use Rattle.fields.proofs.FieldLaws.{bits_first, bits_low, bits_middle, bits_high}
use Rattle.gif.specs.Packed.{rgbaq}
use native.Mathlib.Omega.{arith}
use borrow.Author.Rules.{rules}
use Rattle.gif.proofs.packed.rgbaq_value.Goals as goal

pub returns : goal.returns
unfolding rgbaq
returns c = let l = c.args.quad.low in let h = c.args.quad.high in
    simp (bits_first l h 7 (omega arith), bits_low l h 32 39 (omega arith) (omega arith), bits_middle l h (search rules) 71, bits_high l h (search rules) 96 103 (omega arith), c.from.ensures)

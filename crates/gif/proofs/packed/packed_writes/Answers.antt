use Rattle.fields.proofs.FieldLaws.{bits_first, bits_middle, bits_high, whole_low}
use Rattle.gif.specs.Packed.{packed_writes}
use Rattle.fields.specs.Fields.{if}
use borrow.Author.Tests.{ne_eqb}
use native.Mathlib.Omega.{arith}
use borrow.Author.Rules.{rules}
use Rattle.gif.proofs.packed.packed_writes.Goals as goal

pub returns-in-0 : goal.returns-in-0
unfolding packed_writes if
returns-in-0 c = simp (c.one.ensures, c.in-0.is, bits_first c.args.quad.low c.args.quad.high 10 (omega arith))

pub returns-in-1 : goal.returns-in-1
unfolding packed_writes if
returns-in-1 c = simp (c.one-in-1.ensures, c.in-1.is, c.rgbaq_value.ensures)

pub returns-in-3 : goal.returns-in-3
unfolding packed_writes if
returns-in-3 c = simp (c.one-in-3.ensures, c.in-3.is, c.uv_value.ensures)

pub returns-in-4 : goal.returns-in-4
unfolding packed_writes if
returns-in-4 c = simp (c.one-in-4.ensures, c.in-4.is, c.xyzf_value.ensures, c.redirect.ensures)

pub returns-in-5 : goal.returns-in-5
unfolding packed_writes if
returns-in-5 c = simp (c.one-in-5.ensures, c.in-5.is, c.xyz_value.ensures, c.redirect-in-5.ensures)

pub returns-in-10 : goal.returns-in-10
unfolding packed_writes if
returns-in-10 c = simp (c.one-in-10.ensures, c.in-10.is, bits_high c.args.quad.low c.args.quad.high (search rules) 100 107 (omega arith))

pub returns-in-14 : goal.returns-in-14
unfolding packed_writes if
returns-in-14 c = simp (c.one-in-14.ensures, c.in-14.is, bits_middle c.args.quad.low c.args.quad.high (search rules) 71, whole_low c.args.quad.low c.args.quad.high (search rules))

pub returns-in-15 : goal.returns-in-15
unfolding packed_writes if
returns-in-15 c = simp c.in-15.is

pub returns-in_default : goal.returns-in_default
unfolding packed_writes if
returns-in_default c = let n = c.in_default.in_default-own.rest in
    simp (c.one-in_default.ensures, ne_eqb _ _ n.1, ne_eqb _ _ n.0.1, ne_eqb _ _ n.0.0.1, ne_eqb _ _ n.0.0.0.1, ne_eqb _ _ n.0.0.0.0.1, ne_eqb _ _ n.0.0.0.0.0.1, ne_eqb _ _ n.0.0.0.0.0.0.1, ne_eqb _ _ n.0.0.0.0.0.0.0.1, whole_low c.args.quad.low c.args.quad.high (search rules))

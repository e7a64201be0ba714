use Rattle.fields.proofs.FieldLaws.{bits_high}
use Rattle.gif.specs.Packed.{redirected}
use Rattle.fields.specs.Fields.{if}
use borrow.Author.Tests.{eq-eqb, ne_eqb}
use native.Mathlib.Omega.{arith}
use borrow.Author.Rules.{rules}
use Rattle.gif.proofs.packed.redirect.Goals as goal

pub returns-then-quad-eq1 : goal.returns-then-quad-eq1
unfolding redirected if
returns-then-quad-eq1 c = simp (bits_high c.args.quad.low c.args.quad.high (search rules) 111 111 (omega arith), eq-eqb _ _ c.if-quad-eq1.true)

pub returns-else-quad-eq1 : goal.returns-else-quad-eq1
unfolding redirected if
returns-else-quad-eq1 c = simp (bits_high c.args.quad.low c.args.quad.high (search rules) 111 111 (omega arith), ne_eqb _ _ c.if-quad-eq1.false)

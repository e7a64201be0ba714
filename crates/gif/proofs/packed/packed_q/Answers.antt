use Rattle.fields.proofs.FieldLaws.{bits_middle}
use Rattle.gif.specs.Packed.{packed_q}
use Rattle.fields.specs.Fields.{if}
use borrow.Author.Tests.{eq-eqb, ne_eqb}
use borrow.Author.Rules.{rules}
use Rattle.gif.proofs.packed.packed_q.Goals as goal

pub returns-then-descriptor-eq2 : goal.returns-then-descriptor-eq2
unfolding packed_q if
returns-then-descriptor-eq2 c = simp (eq-eqb _ _ c.if-descriptor-eq2.true, bits_middle c.args.quad.low c.args.quad.high (search rules) 95)

pub returns-else-descriptor-eq2 : goal.returns-else-descriptor-eq2
unfolding packed_q if
returns-else-descriptor-eq2 c = simp (ne_eqb _ _ c.if-descriptor-eq2.false)

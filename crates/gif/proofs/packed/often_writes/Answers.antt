use Rattle.fields.proofs.FieldLaws.{bits_middle, whole_low}
use Rattle.fields.specs.Fields.{if}
use Rattle.gif.specs.Packed.{packed_writes}
use borrow.Author.Rules.{rules}
use Rattle.gif.proofs.packed.often_writes.Goals as goal

pub returns-then-descriptor-eq14 : goal.returns-then-descriptor-eq14
unfolding packed_writes if
returns-then-descriptor-eq14 c =
    let x = c.args in
    simp (c.one.ensures, c.if-descriptor-eq14.true, bits_middle x.quad.low x.quad.high (search rules) 71, whole_low x.quad.low x.quad.high (search rules))

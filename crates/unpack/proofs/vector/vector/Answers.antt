use Rattle.unpack_rules.proofs.VectorLaws.{part_fits, part_as}
use Rattle.unpack_rules.proofs.VectorLaws.{vector_five, vector_one, vector_two, vector_three, vector_four}
use Rattle.unpack_rules.proofs.PayloadLaws.{few_elements}
use native.Mathlib.Omega.{arith}
use mathlib.Core.Path.{sym, ◌∙◌}
use Rattle.unpack.proofs.vector.vector.Goals as goal

pub element_at-requires : goal.element_at-requires
element_at-requires c = part_fits _ _ c.requires c.element_bits-width.ensures 0 _ (few_elements c.args.f).some (omega arith)

pub returns-then-is_five : goal.returns-then-is_five
returns-then-is_five c = vector_five _ _ _ _ (sym c.is_five.ensures ∙ c.if-is_five.true) (c.element_at.ensures.0 ∙ rw c.element_bits-width.ensures) c.five_fields.ensures

pub extended_at-x-requires : goal.extended_at-x-requires
extended_at-x-requires c = part_fits _ _ c.requires c.element_bits-width.ensures 0 _ (few_elements c.args.f).some (omega arith)

pub returns-then-n-eq1 : goal.returns-then-n-eq1
returns-then-n-eq1 c = vector_one _ _ _ _ (sym c.is_five.ensures ∙ c.if-is_five.false) c.elements-n.ensures (part_as _ _ c.requires c.element_bits-width.ensures _ _ 0 _ (omega arith) c.extended_at-x.ensures) c.if-n-eq1.true

pub extended_at-y-requires : goal.extended_at-y-requires
extended_at-y-requires c = let n = (few_elements c.args.f).some in part_fits _ _ c.requires c.element_bits-width.ensures 1 _ (omega (arith, c.elements-n.ensures)) (omega arith)

pub returns-then-n-eq2 : goal.returns-then-n-eq2
returns-then-n-eq2 c = vector_two _ _ _ _ (sym c.is_five.ensures ∙ c.if-is_five.false) c.elements-n.ensures (part_as _ _ c.requires c.element_bits-width.ensures _ _ 0 _ (omega arith) c.extended_at-x.ensures) c.if-n-eq1.false (part_as _ _ c.requires c.element_bits-width.ensures _ _ 1 _ (omega arith) c.extended_at-y.ensures) c.if-n-eq2.true

pub extended_at-z-requires : goal.extended_at-z-requires
extended_at-z-requires c = let n = (few_elements c.args.f).some in part_fits _ _ c.requires c.element_bits-width.ensures 2 _ (omega (arith, c.elements-n.ensures)) (omega arith)

pub returns-then-n-eq3 : goal.returns-then-n-eq3
returns-then-n-eq3 c = vector_three _ _ _ _ (sym c.is_five.ensures ∙ c.if-is_five.false) c.elements-n.ensures (part_as _ _ c.requires c.element_bits-width.ensures _ _ 0 _ (omega arith) c.extended_at-x.ensures) c.if-n-eq1.false (part_as _ _ c.requires c.element_bits-width.ensures _ _ 1 _ (omega arith) c.extended_at-y.ensures) c.if-n-eq2.false (part_as _ _ c.requires c.element_bits-width.ensures _ _ 2 _ (omega arith) c.extended_at-z.ensures) c.if-n-eq3.true

pub extended_at-w-requires : goal.extended_at-w-requires
extended_at-w-requires c = let n = (few_elements c.args.f).some in part_fits _ _ c.requires c.element_bits-width.ensures 3 _ (omega (arith, c.elements-n.ensures)) (omega arith)

pub returns : goal.returns
returns c = vector_four _ _ _ _ (sym c.is_five.ensures ∙ c.if-is_five.false) c.elements-n.ensures (part_as _ _ c.requires c.element_bits-width.ensures _ _ 0 _ (omega arith) c.extended_at-x.ensures) c.if-n-eq1.false (part_as _ _ c.requires c.element_bits-width.ensures _ _ 1 _ (omega arith) c.extended_at-y.ensures) c.if-n-eq2.false (part_as _ _ c.requires c.element_bits-width.ensures _ _ 2 _ (omega arith) c.extended_at-z.ensures) c.if-n-eq3.false (part_as _ _ c.requires c.element_bits-width.ensures _ _ 3 _ (omega arith) c.extended_at-w.ensures)

use mathlib.Core.Path.{sym, ap, ◌∙◌}
use native.Mathlib.Omega.{arith}
use Rattle.unpack_rules.specs.Whole.{store_quadword}
use Rattle.unpack.specs.Vectors.{vector_in}
use Rattle.unpack_rules.proofs.PayloadLaws.{few_elements}
use Rattle.unpack_rules.proofs.VectorLaws.{vector_five, vector_one, vector_two, vector_three, vector_four}
use Rattle.unpack.proofs.VectorsLaws.{part_known, part_in, part_inside, five_in}
use Rattle.unpack.proofs.vectors.store_vector.Goals as goal

pub element_inside-requires : goal.element_inside-requires
element_inside-requires c =
    let w = c.requires.2 in
    (part_known c.args.f w, (let i = part_inside c.args.f w c.args.at _ 0 c.requires.0 (few_elements c.args.f).some in omega arith))

pub returns-then-is_five : goal.returns-then-is_five
unfolding vector_in
returns-then-is_five c =
    c.store_quadword.ensures
    ∙ ap (store_quadword _ _)
    (vector_five _ _ _ _ (sym c.is_five.ensures ∙ c.if-is_five.true) (five_in c.args.f c.args.usn c.args.main.now (λ j. let y = c.shared_slice_known-1.given j in omega arith) _ c.requires.2 c.element_inside.ensures.0) c.five_fields-fields.ensures)

pub extended_inside-x-requires : goal.extended_inside-x-requires
extended_inside-x-requires c =
    let w = c.requires.2 in
    (part_known c.args.f w, (let i = part_inside c.args.f w c.args.at _ 0 c.requires.0 (few_elements c.args.f).some in omega arith))

pub returns-then-n-eq1 : goal.returns-then-n-eq1
unfolding vector_in
returns-then-n-eq1 c =
    let w = c.requires.2 in
    let f = c.args.f in
    let p = part_in f c.args.usn c.args.main.now (λ j. let y = c.shared_slice_known-1.given j in omega arith) c.args.at w in
    c.store_quadword-then-n-eq1.ensures
    ∙ ap (store_quadword _ _)
    (vector_one _ _ _ _ (sym c.is_five.ensures ∙ c.if-is_five.false) c.requires.3 (p 0 (few_elements f).some _ _ (omega arith) c.extended_inside-x.ensures) c.if-n-eq1.true)

pub extended_inside-y-requires : goal.extended_inside-y-requires
extended_inside-y-requires c =
    let w = c.requires.2 in
    let f = c.args.f in
    let m = (few_elements f).some in
    (part_known f w, (let i = part_inside f w c.args.at _ 1 c.requires.0 (omega (arith, c.requires.3)) in omega arith))

pub returns-then-n-eq2 : goal.returns-then-n-eq2
unfolding vector_in
returns-then-n-eq2 c =
    let w = c.requires.2 in
    let f = c.args.f in
    let m = (few_elements f).some in
    let e = c.requires.3 in
    let p = part_in f c.args.usn c.args.main.now (λ j. let c = c.shared_slice_known-1.given j in omega arith) c.args.at w in
    c.store_quadword-then-n-eq2.ensures
    ∙ ap (store_quadword _ _)
    (vector_two _ _ _ _ (sym c.is_five.ensures ∙ c.if-is_five.false) e (p 0 m _ _ (omega arith) c.extended_inside-x.ensures) c.if-n-eq1.false (p 1 (omega arith) _ _ (omega arith) c.extended_inside-y.ensures) c.if-n-eq2.true)

pub extended_inside-z-requires : goal.extended_inside-z-requires
extended_inside-z-requires c =
    let w = c.requires.2 in
    let f = c.args.f in
    let m = (few_elements f).some in
    (part_known f w, (let i = part_inside f w c.args.at _ 2 c.requires.0 (omega (arith, c.requires.3)) in omega arith))

pub returns-then-n-eq3 : goal.returns-then-n-eq3
unfolding vector_in
returns-then-n-eq3 c =
    let w = c.requires.2 in
    let f = c.args.f in
    let m = (few_elements f).some in
    let e = c.requires.3 in
    let p = part_in f c.args.usn c.args.main.now (λ j. let c = c.shared_slice_known-1.given j in omega arith) c.args.at w in
    c.store_quadword-then-n-eq3.ensures
    ∙ ap (store_quadword _ _)
    (vector_three _ _ _ _ (sym c.is_five.ensures ∙ c.if-is_five.false) e (p 0 m _ _ (omega arith) c.extended_inside-x.ensures) c.if-n-eq1.false (p 1 (omega arith) _ _ (omega arith) c.extended_inside-y.ensures) c.if-n-eq2.false (p 2 (omega arith) _ _ (omega arith) c.extended_inside-z.ensures) c.if-n-eq3.true)

pub extended_inside-w-requires : goal.extended_inside-w-requires
extended_inside-w-requires c =
    let w = c.requires.2 in
    let f = c.args.f in
    let m = (few_elements f).some in
    (part_known f w, (let i = part_inside f w c.args.at _ 3 c.requires.0 (omega (arith, c.requires.3)) in omega arith))

pub returns : goal.returns
unfolding vector_in
returns c =
    let w = c.requires.2 in
    let f = c.args.f in
    let m = (few_elements f).some in
    let e = c.requires.3 in
    let p = part_in f c.args.usn c.args.main.now (λ j. let c = c.shared_slice_known-1.given j in omega arith) c.args.at w in
    c.store_quadword-2.ensures
    ∙ ap (store_quadword _ _)
    (vector_four _ _ _ _ (sym c.is_five.ensures ∙ c.if-is_five.false) e (p 0 m _ _ (omega arith) c.extended_inside-x.ensures) c.if-n-eq1.false (p 1 (omega arith) _ _ (omega arith) c.extended_inside-y.ensures) c.if-n-eq2.false (p 2 (omega arith) _ _ (omega arith) c.extended_inside-z.ensures) c.if-n-eq3.false (p 3 (omega arith) _ _ (omega arith) c.extended_inside-w.ensures))

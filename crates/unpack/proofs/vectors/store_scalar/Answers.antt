use mathlib.Core.Path.{refl, ap, ◌∙◌}
use native.Mathlib.Omega.{arith}
use Rattle.unpack_rules.specs.Whole.{store_quadword}
use Rattle.unpack.specs.Vectors.{vector_in}
use Rattle.unpack_rules.proofs.PayloadLaws.{few_elements}
use Rattle.unpack_rules.proofs.VectorLaws.{vector_one}
use Rattle.unpack.proofs.VectorsLaws.{part_known, part_in, part_inside}
use Rattle.unpack.proofs.vectors.store_scalar.Goals as goal

pub extended_inside-x-requires : goal.extended_inside-x-requires
extended_inside-x-requires c =
    let w = c.requires.2 in
    (part_known c.args.f w, (let i = part_inside c.args.f w c.args.at _ 0 c.requires.0 (few_elements c.args.f).some in omega arith))

pub returns : goal.returns
unfolding vector_in
returns c =
    let f = c.args.f in
    let p = part_in f c.args.usn c.args.main.now (λ j. let y = c.shared_slice_known-1.given j in omega arith) c.args.at c.requires.2 in
    c.store_quadword.ensures
    ∙ ap (store_quadword _ _) (vector_one _ _ _ _ c.requires.3.extends refl (p 0 (few_elements f).some _ _ (omega arith) c.extended_inside-x.ensures) c.requires.3.single)

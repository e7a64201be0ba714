use Rattle.std.proofs.Common.{◌∙◌, arith}
use Rattle.compare.proofs.ListLaws.{numbers_found}
use Rattle.compare.proofs.WithinLaws.{found_first_most, found_from_is, inside_from}
use Rattle.compare.proofs.elements.found_from.Goals as goal

pub found_in-found-requires : goal.found_in-found-requires
found_in-found-requires c = inside_from _ _ _ _ c.requires

pub overflow_add-result : goal.overflow_add-result
overflow_add-result c =
    let a = c.args in
    let e = c.found_in-found.ensures ∙ numbers_found 4 _ _ _ (inside_from _ _ _ _ c.requires) in
    let p = found_first_most a.first a.n a.a.now a.b.now e in
    omega arith

pub returns : goal.returns
returns c =
    let a = c.args in
    found_from_is a.first a.n a.a.now a.b.now (c.found_in-found.ensures ∙ numbers_found 4 _ _ _ (inside_from _ _ _ _ c.requires))

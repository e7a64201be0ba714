use Rattle.std.proofs.Common.{refl}
use Rattle.std.proofs.lemmas.Result.{err_from_is_err_and}
use Rattle.memories.specs.declared.VifUnit.TheVariants.{Vif0, Vif1}
use Rattle.compare.proofs.WithinLaws.{range_out, range_fits, answer_within_lem}
use Rattle.compare.proofs.compare_within.Goals as goal

pub returns-then-range_refused : goal.returns-then-range_refused
returns-then-range_refused c = range_out _ _ _ _ _ c.range_refused.ensures c.if-range_refused.true

pub returns-in_err-whole : goal.returns-in_err-whole
returns-in_err-whole c =
    let p = err_from_is_err_and c.from_residual.result c.from_residual.ensures.1 in
    rw (p.1, p.2) (answer_within_lem _ _ _ _ _ c.range_refused.ensures c.if-range_refused.false c.in_err-whole.ensures)

pub comparison_within-requires : goal.comparison_within-requires
comparison_within-requires c =
    let f = range_fits _ _ _ _ _ c.range_refused.ensures c.if-range_refused.false c.in_ok-whole.ensures refl in
    (f Vif1, f Vif0)

pub returns : goal.returns
returns c =
    rw c.comparison_within.ensures (answer_within_lem _ _ _ _ _ c.range_refused.ensures c.if-range_refused.false c.in_ok-whole.ensures)

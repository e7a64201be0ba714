use Rattle.std.proofs.Common.{rules, arith, sym, ◌∙◌}
use Rattle.salvage.proofs.PieceLaws.{refused_inside}
use Rattle.salvage.proofs.RangeLaws.{err_refused, ok_ends, ends_refused}
use Rattle.salvage.proofs.reading.range_end.Goals as goal

pub overflow_add-end : goal.overflow_add-end
overflow_add-end c =
    let r = err_refused _ _ c.read_record.result c.read_record.ensures (sym c.is_err.ensures.value ∙ c.loop-end-test.true) in
    let p = refused_inside _ _ r.2 in
    search rules

pub loop-end-smaller : goal.loop-end-smaller
loop-end-smaller c =
    let r = err_refused _ _ c.read_record.result c.read_record.ensures (sym c.is_err.ensures.value ∙ c.loop-end-test.true) in
    let p = refused_inside _ _ r.2 in
    omega arith

pub loop-end-preserved : goal.loop-end-preserved
loop-end-preserved c =
    let r = err_refused _ _ c.read_record.result c.read_record.ensures (sym c.is_err.ensures.value ∙ c.loop-end-test.true) in
    sym (ends_refused _ _ r.2) ∙ c.loop-end.invariant

pub returns : goal.returns
returns c = sym (ok_ends _ _ c.read_record.result c.read_record.ensures (sym c.is_err.ensures.value ∙ c.loop-end-test.false)) ∙ c.loop-end.invariant

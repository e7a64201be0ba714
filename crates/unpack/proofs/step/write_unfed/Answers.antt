use mathlib.Core.Path.{sym, ◌∙◌}
use native.Mathlib.Omega.{arith}
use Rattle.unpack_rules.proofs.WriteLaws.{row_few, row_chosen, unfed_at, writes_more, writes_none}
use Rattle.unpack_rules.proofs.StepLaws.{unfed_again, unfed_vectors}
use Rattle.unpack.proofs.step.write_unfed.Goals as goal

pub bounds-codes-c : goal.bounds-codes-c
bounds-codes-c c = row_few _ _ c.row_of_cycle-c.ensures

pub bounds-col-c : goal.bounds-col-c
bounds-col-c c = row_few _ _ c.row_of_cycle-c.ensures

pub fill_at-requires : goal.fill_at-requires
fill_at-requires c =
    let i = c.loop-i.invariant in
    let x = i.fits in
    let e = c.row_of_cycle-c.ensures in
    let l = c.loop-i-test.true in
    (x.cycle, x.none, x.memory, x.inside, (let f = x.few in omega arith), row_chosen _ _ _ i.codes e, rw (i.col, e))

pub loop-i-preserved : goal.loop-i-preserved
loop-i-preserved c =
    let i = c.loop-i.invariant in
    let e = c.fill_at.auto.data in
    record {
      fits = unfed_again e i.fits;
      length = e ∙ i.length;
      codes = i.codes;
      col = i.col;
      same =
          writes_more _ _ _ _ _ _ c.loop-i-test.true _ (c.fill_at.ensures ∙ unfed_at _ _ _ _ _ (unfed_vectors i.fits _) _)
          ∙ i.same;
    }

pub returns : goal.returns
returns c = sym (writes_none _ _ _ _ _ _ c.loop-i-test.false _) ∙ c.loop-i.invariant.same

use mathlib.Core.Path.{sym, ◌∙◌}
use Prim.Native.Nat.{◌+◌}
use native.Mathlib.Omega.{arith}
use Rattle.unpack_rules.proofs.CycleLaws.{vectors_few}
use Rattle.unpack_rules.proofs.WriteLaws.{row_few, row_chosen, filling_at, writes_more, writes_none}
use Rattle.unpack_rules.proofs.StepLaws.{word_fits_again, number_up, number_some, number_in}
use Rattle.unpack.proofs.step.write_vectors.Goals as goal

pub overflow_sub-vectors : goal.overflow_sub-vectors
overflow_sub-vectors c =
    let i = c.loop-i.invariant in
    number_some (i.fits.each _ i.later c.loop-i-test.true) c.vectors_after-vectors.ensures

pub held_vector-fields-requires : goal.held_vector-fields-requires
held_vector-fields-requires c =
    let i = c.loop-i.invariant in
    let w = i.fits in
    let a = c.args in
    let v = vectors_few a.w.registers.cl a.w.registers.wl (c.loop-i.i + 1) in
    let l = c.loop-i-test.true in
    let n = w.few in
    (number_in (w.each _ i.later l) c.vectors_after-vectors.ensures, w.words, omega (arith, c.vectors_after-vectors.ensures))

pub bounds-codes-c : goal.bounds-codes-c
bounds-codes-c c = row_few _ _ c.row_of_cycle-c.ensures

pub bounds-col-c : goal.bounds-col-c
bounds-col-c c = row_few _ _ c.row_of_cycle-c.ensures

pub write_at-next-requires : goal.write_at-next-requires
write_at-next-requires c =
    let i = c.loop-i.invariant in
    let w = i.fits in
    let e = c.row_of_cycle-c.ensures in
    (w.cycle, w.memory, c.requires.1, (let f = w.few in omega arith), row_chosen _ _ _ i.codes e, rw (i.col, e))

pub loop-i-preserved : goal.loop-i-preserved
loop-i-preserved c =
    let i = c.loop-i.invariant in
    let e = c.write_at-next.auto.data in
    let l = i.later in
    let y = i.fits.each _ i.later c.loop-i-test.true in
    record {
      fits = word_fits_again e i.fits;
      later = omega arith;
      vectors = c.vectors_after-vectors.ensures;
      length = e ∙ i.length;
      codes = i.codes;
      col = i.col;
      same =
          writes_more _ _ _ _ _ _ c.loop-i-test.true _ (c.write_at-next.ensures ∙ rw c.held_vector-fields.ensures (filling_at _ _ _ _ _ (number_up y c.vectors_after-vectors.ensures) _))
          ∙ i.same;
    }

pub returns : goal.returns
returns c = sym (writes_none _ _ _ _ _ _ c.loop-i-test.false _) ∙ c.loop-i.invariant.same

use mathlib.Core.Path.{sym, ◌∙◌}
use Prim.Native.Nat.{◌+◌}
use native.Mathlib.Nat.{mod-lt}
use native.Mathlib.Omega.{arith}
use Rattle.unpack.proofs.CopyLaws.{run_more, stores_none}
use Rattle.unpack.proofs.copy.copy_runs.Goals as goal

pub loop-i-preserved : goal.loop-i-preserved
loop-i-preserved c =
    let q = c.loop-i.invariant in
    let l = mod-lt (c.args.w.address + c.loop-i.i) c.requires.0.some in
    let t = c.loop-i-test.true in
    let e = c.wrapped-quad.ensures in
    let g = c.min-run.ensures in
    let b = q.byte in
    let h = q.late in
    record {
      sizes = c.copy_words.auto.data ∙ q.sizes;
      late = omega arith;
      few = omega arith;
      byte = omega arith;
      same = run_more _ _ _ _ _ _ _ _ _ _ _ (omega arith) b e (omega arith) c.copy_words.ensures ∙ q.same;
    }

pub returns : goal.returns
returns c = sym (stores_none _ _ _ _ _ c.loop-i-test.false) ∙ c.loop-i.invariant.same

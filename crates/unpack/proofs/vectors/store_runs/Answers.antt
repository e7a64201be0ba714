use mathlib.Core.Path.{sym, ◌∙◌}
use Prim.Native.Nat.{◌+◌}
use native.Mathlib.Nat.{mod-lt}
use native.Mathlib.Omega.{arith}
use Rattle.unpack.proofs.CopyLaws.{stores_none}
use Rattle.unpack.proofs.VectorsLaws.{runs_more, runs_inside, runs_next}
use Rattle.unpack.proofs.vectors.store_runs.Goals as goal

pub store_run-requires : goal.store_run-requires
store_run-requires c =
    let p = c.requires in
    let q = c.loop-i.invariant in
    let z = p.0.long in
    let l = mod-lt (c.args.w.address + c.loop-i.i) p.0.some in
    let t = c.loop-i-test.true in
    let e = c.min-run.ensures in
    let y = q.sizes in
    (runs_inside c.args.f c.args.a c.args.w.first c.args.w.last c.loop-i.i _ _ p.4 q.late (omega arith) q.byte, omega (arith, c.wrapped-quad.ensures))

pub loop-i-preserved : goal.loop-i-preserved
loop-i-preserved c =
    let q = c.loop-i.invariant in
    let l = mod-lt (c.args.w.address + c.loop-i.i) c.requires.0.some in
    let t = c.loop-i-test.true in
    let e = c.wrapped-quad.ensures in
    let g = c.min-run.ensures in
    let h = q.late in
    record {
      sizes = c.store_run.auto.data ∙ q.sizes;
      late = omega arith;
      few = omega arith;
      byte = runs_next _ _ _ _ _ c.vector_bytes-bytes.ensures h q.byte;
      same = runs_more _ _ _ _ _ _ _ _ _ _ _ _ _ h (omega arith) q.byte e (omega arith) c.store_run.ensures ∙ q.same;
    }

pub returns : goal.returns
returns c = sym (stores_none _ _ _ _ _ c.loop-i-test.false) ∙ c.loop-i.invariant.same

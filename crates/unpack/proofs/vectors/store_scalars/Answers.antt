use mathlib.Core.Path.{refl, sym, ◌∙◌}
use native.Mathlib.Omega.{arith}
use Rattle.unpack.proofs.CopyLaws.{stores_more, stores_none}
use Rattle.unpack.proofs.VectorsLaws.{run_next, run_first, scalar_bytes}
use Rattle.unpack.proofs.vectors.store_scalars.Goals as goal

pub loop-j-preserved : goal.loop-j-preserved
loop-j-preserved c =
    let i = c.loop-j.invariant in
    record {
      sizes = c.store_scalar.auto.data ∙ i.sizes;
      few = omega (arith, c.loop-j-test.true);
      byte = run_next _ _ _ (scalar_bytes c.args.f c.requires.3 c.requires.2) i.byte;
      same = stores_more _ _ _ _ _ _ c.loop-j-test.true refl (run_first _ _ _ _ _ i.byte) c.store_scalar.ensures ∙ i.same;
    }

pub returns : goal.returns
returns c = sym (stores_none _ _ _ _ _ c.loop-j-test.false) ∙ c.loop-j.invariant.same

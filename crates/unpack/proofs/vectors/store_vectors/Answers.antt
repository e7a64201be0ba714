use mathlib.Core.Path.{refl, sym, ◌∙◌}
use native.Mathlib.Omega.{arith}
use Rattle.unpack.proofs.CopyLaws.{stores_more, stores_none}
use Rattle.unpack.proofs.VectorsLaws.{run_next, run_first}
use Rattle.unpack.proofs.vectors.store_vectors.Goals as goal

pub loop-j-preserved : goal.loop-j-preserved
loop-j-preserved c =
    let i = c.loop-j.invariant in
    record {
      sizes = c.store_vector.auto.data ∙ i.sizes;
      few = omega (arith, c.loop-j-test.true);
      byte = run_next _ _ _ c.vector_bytes-bytes.ensures i.byte;
      same = stores_more _ _ _ _ _ _ c.loop-j-test.true refl (run_first _ _ _ _ _ i.byte) c.store_vector.ensures ∙ i.same;
    }

pub returns : goal.returns
returns c = sym (stores_none _ _ _ _ _ c.loop-j-test.false) ∙ c.loop-j.invariant.same

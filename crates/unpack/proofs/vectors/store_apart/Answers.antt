use mathlib.Core.Path.{refl, sym, ◌∙◌}
use native.Mathlib.Nat.{mod-lt}
use native.Mathlib.Omega.{arith}
use Rattle.unpack_rules.proofs.WriteLaws.{position_inside}
use Rattle.unpack.proofs.CopyLaws.{next_cycle, next_place, next_index, stores_more, stores_none}
use Rattle.unpack.proofs.VectorsLaws.{index_few, index_words, index_first}
use Rattle.unpack.proofs.vectors.store_apart.Goals as goal

pub loop-i-init : goal.loop-i-init
loop-i-init c =
    let p = c.requires.0 in
    let e = c.place-quad.ensures in
    let t = c.place_in_cycle-cycle.ensures in
    let q = position_inside c.args.w.size c.args.w.address c.args.w.registers.cl c.args.w.registers.wl c.args.w.first p.memory.some in
    record {
      sizes = refl;
      place = e;
      below = rw e q;
      turn = t;
      short = rw t (mod-lt _ p.cycle.some);
      vector = index_first p;
      same = refl;
    }

pub quad_of-requires : goal.quad_of-requires
quad_of-requires c =
    let f = index_few c.requires.0 _ c.loop-i-test.true c.loop-i.invariant.vector in
    let x = c.requires.1 in
    omega arith

pub next_vector-index-requires : goal.next_vector-index-requires
next_vector-index-requires c =
    let f = index_few c.requires.0 _ c.loop-i-test.true c.loop-i.invariant.vector in
    omega arith

pub loop-i-preserved : goal.loop-i-preserved
loop-i-preserved c =
    let p = c.requires.0 in
    let q = c.loop-i.invariant in
    let e = c.wrapped-quad.ensures in
    let y = next_cycle _ _ p.cycle.some _ q.turn c.next_in_cycle-cycle.ensures in
    record {
      sizes = c.store_quadword.auto.data ∙ q.sizes;
      place = e ∙ next_place _ _ p.cycle.some _ _ _ _ _ q.place q.turn c.stride.ensures;
      below = rw e (mod-lt _ p.memory.some);
      turn = y;
      short = rw y (mod-lt _ p.cycle.some);
      vector = next_index _ _ p.cycle.some _ _ _ _ q.vector y c.next_vector-index.ensures;
      same =
          stores_more _ _ _ _ _ _ c.loop-i-test.true q.place (index_words p _ c.loop-i-test.true q.vector _ c.quad_of.ensures) c.store_quadword.ensures
          ∙ q.same;
    }

pub returns : goal.returns
returns c = sym (stores_none _ _ _ _ _ c.loop-i-test.false) ∙ c.loop-i.invariant.same

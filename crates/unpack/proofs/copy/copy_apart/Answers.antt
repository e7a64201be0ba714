use mathlib.Core.Path.{refl, sym, ◌∙◌}
use native.Mathlib.Nat.{mod-lt}
use native.Mathlib.Omega.{arith}
use Rattle.unpack_rules.proofs.WriteLaws.{position_inside}
use Rattle.unpack.proofs.CopyLaws.{copy_inside, copy_near, copy_words_lem, next_cycle, next_place, next_vector, stores_more, stores_none}
use Rattle.unpack.proofs.copy.copy_apart.Goals as goal

pub loop-i-init : goal.loop-i-init
loop-i-init c =
    let p = c.requires in
    let e = c.place-quad.ensures in
    let t = c.place_in_cycle-cycle.ensures in
    let q = position_inside c.args.w.size c.args.w.address c.args.w.registers.cl c.args.w.registers.wl c.args.w.first p.memory.some in
    record {
      sizes = refl;
      few = let h = p.some in omega arith;
      place = e;
      below = rw e q;
      turn = t;
      short = rw t (mod-lt _ p.cycle.some);
      byte = rw p.begins;
      same = refl;
    }

pub quad_inside-requires : goal.quad_inside-requires
quad_inside-requires c =
    copy_inside c.requires _ c.loop-i-test.true c.loop-i.invariant.byte

pub next_vector-at-requires : goal.next_vector-at-requires
next_vector-at-requires c =
    (copy_near c.requires _ c.loop-i-test.true c.loop-i.invariant.byte, omega arith)

pub loop-i-preserved : goal.loop-i-preserved
loop-i-preserved c =
    let p = c.requires in
    let q = c.loop-i.invariant in
    let e = c.wrapped-quad.ensures in
    let y = next_cycle _ _ p.cycle.some _ q.turn c.next_in_cycle-cycle.ensures in
    record {
      sizes = c.store_quadword.auto.data ∙ q.sizes;
      few = omega (arith, c.loop-i-test.true);
      place = e ∙ next_place _ _ p.cycle.some _ _ _ _ _ q.place q.turn c.stride.ensures;
      below = rw e (mod-lt _ p.memory.some);
      turn = y;
      short = rw y (mod-lt _ p.cycle.some);
      byte = next_vector _ _ p.cycle.some _ _ _ _ _ q.byte y c.next_vector-at.ensures;
      same =
          stores_more _ _ _ _ _ _ c.loop-i-test.true q.place (copy_words_lem p _ c.loop-i-test.true q.byte c.quad_inside.ensures) c.store_quadword.ensures
          ∙ q.same;
    }

pub returns : goal.returns
returns c = sym (stores_none _ _ _ _ _ c.loop-i-test.false) ∙ c.loop-i.invariant.same

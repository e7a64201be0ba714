use mathlib.Core.Path.{refl, sym, ◌∙◌}
use native.Mathlib.Omega.{arith}
use Rattle.unpack_rules.proofs.WriteLaws.{position_inside}
use Rattle.unpack.proofs.CopyLaws.{stores_more, stores_none}
use Rattle.unpack.proofs.short.store_each.Goals as goal

pub store_quadword-requires : goal.store_quadword-requires
store_quadword-requires c =
    let i = c.loop-i in
    let m = c.requires.1 in
    let p = position_inside c.args.w.size c.args.w.address c.args.w.registers.cl c.args.w.registers.wl i.i m.some in
    let l = m.long in
    let e = i.invariant.sizes in
    omega (arith, c.place-quad.ensures)

pub loop-i-preserved : goal.loop-i-preserved
loop-i-preserved c =
    let i = c.loop-i.invariant in
    record {
      sizes = c.store_quadword.auto.data ∙ i.sizes;
      same = stores_more _ _ _ _ _ _ c.loop-i-test.true c.place-quad.ensures refl c.store_quadword.ensures ∙ i.same;
    }

pub returns : goal.returns
returns c = sym (stores_none _ _ _ _ _ c.loop-i-test.false) ∙ c.loop-i.invariant.same

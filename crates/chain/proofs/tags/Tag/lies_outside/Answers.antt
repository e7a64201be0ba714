use Prim.Native.Nat.{◌^◌}
use native.Mathlib.Omega.{arith}
use Rattle.chain.proofs.TagLaws.{payload_near}
use Rattle.chain.proofs.tags.Tag.lies_outside.Goals as goal

pub overflow_add-result : goal.overflow_add-result
overflow_add-result c =
    let t = c.args.self in
    let h = payload_near t.id t.addr c.args.tadr {bound = 2 ^ 33} (omega (arith, t.in_range.1)) (omega (arith, c.ranges.tadr)) in
    omega (arith, h, c.payload_at.ensures, t.in_range.0)

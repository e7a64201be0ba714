use native.Mathlib.Omega.{arith}
use Prim.Native.Nat.{◌^◌}
use Rattle.fields.specs.Fields.{if}
use Rattle.chain.specs.Tags.{payload_of}
use Rattle.chain.proofs.TagLaws.{payload_near}
use Rattle.chain.proofs.tags.Tag.payload.Goals as goal

pub returns-then-self-eq0 : goal.returns-then-self-eq0
unfolding payload_of if
returns-then-self-eq0 c = grind arith

pub overflow_cast-result : goal.overflow_cast-result
overflow_cast-result c =
    let t = c.args.self in
    let h = payload_near t.id t.addr c.args.tadr {bound = 2 ^ 32} (omega (arith, t.in_range.1)) (omega (arith, c.requires)) in
    omega (arith, h, c.payload_at.ensures)

pub returns : goal.returns
unfolding payload_of if
returns c = grind arith

use Prim.Native.Nat.{◌+◌, ◌/◌}
use native.Mathlib.Nat.{mod-lt}
use native.Mathlib.Omega.{arith}
use Rattle.vif_codes.specs.Payload.{word_place}
use Rattle.vif.proofs.MpgLaws.{place_inside}
use Rattle.vif.proofs.mpg.word_place.Goals as goal

pub returns : goal.returns
unfolding word_place
returns c =
    let a = c.args in
    let i = place_inside a.size a.address a.k c.requires.0 in
    let e = c.wrapped.ensures in
    (rw e, omega arith)

pub overflow_mul-result : goal.overflow_mul-result
overflow_mul-result c = let m = mod-lt (c.args.address + c.args.k / 2) c.requires.0 in omega arith

pub overflow_add-result : goal.overflow_add-result
overflow_add-result c = let m = mod-lt (c.args.address + c.args.k / 2) c.requires.0 in omega arith

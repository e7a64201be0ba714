use mathlib.Core.Path.{◌≡◌}
use Prim.Native.Nat.{◌/◌, ◌%◌}
use native.Mathlib.Nat.{mod-eq_of_lt}
use native.Mathlib.Omega.{arith}
use Rattle.fields.specs.Fields.{bits}
use Rattle.vif.proofs.execute.take_code.Goals as goal

pub returns-in-Ok : goal.returns-in-Ok
unfolding bits
returns-in-Ok c =
    let word = c.args.word in
    let e : word / 2147483648 % 2 ≡ word / 2147483648 = mod-eq_of_lt (omega arith) in
    rw (← c.in-Ok.ensures, e) c.execute.ensures

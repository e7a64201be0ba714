-- A bit that is tested is the number that is shown.
use mathlib.Core.Path.{◌≡◌, refl, sym}
use mathlib.Core.Bool.{Bool, true, false}
use Prim.Native.Nat.{ℕ, ◌<◌}
use native.Mathlib.Omega.{arith}
use borrow.Author.Tests.{eqb-true, eqb-false}
use lib.Dec.{eqb}
use mir.Val.{bool_byte}
use Rattle.fields.specs.Fields.{bits}

tested : (n : ℕ) → n < 2 → (b : Bool) → eqb n 1 ≡ b → bool_byte b ≡ n
tested n l true e = sym (eqb-true n 1 e)
tested n l false e = let z = eqb-false n 1 e in omega arith

pub bit_shown : (x : ℕ) → bool_byte (eqb (bits x 63 63) 1) ≡ bits x 63 63
unfolding bits
bit_shown x = tested _ (omega arith) _ refl

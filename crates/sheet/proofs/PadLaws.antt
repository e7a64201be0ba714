-- The zeros of a body: those of one entry, and one turn of the loop over entries.
use mathlib.Core.Path.{◌≡◌, refl}
use mathlib.Core.Bool.{true, false}
use mathlib.Core.List.{List}
use Prim.Native.Nat.{ℕ, zero, suc, ◌+◌, ◌<◌, ◌≤◌}
use native.Mathlib.Omega.{arith}
use lib.ListN.{length, take, drop}
use lib.Dec.{eqb}
use Rattle.std.proofs.Common.{add-one, drop-cons}
use Rattle.std.specs.List.{list_all}
use Rattle.sheet.specs.Records.{zeros_at, pads_zero}

module _ (xs : List ℕ) where
  -- all of n bytes are zero
  pub zeros_all : (at n : ℕ) → at + n ≤ length xs → list_all (λ b. eqb b 0) (take n (drop at xs)) ≡ zeros_at xs at n
  unfolding zeros_at
  zeros_all at zero h = refl
  zeros_all at (suc n) h = let l : at < length xs = omega arith in rw (drop-cons xs at 0, add-one, zeros_all (suc at) n (omega arith))

module _ (xs : List ℕ) (at : ℕ) where
  pub pads_more : (n n' at' : ℕ) → n ≡ suc n' → at' ≡ at + 16 → zeros_at xs (at + 9) 7 ≡ true → pads_zero xs at' n' ≡ pads_zero xs at n
  unfolding pads_zero
  pads_more n n' at' e f z = rw (e, f, z)

  pub pads_not : (n : ℕ) → 0 < n → zeros_at xs (at + 9) 7 ≡ false → pads_zero xs at n ≡ false
  unfolding pads_zero
  pads_not zero e z = absurd (omega arith)
  pads_not (suc n) e z = rw z

  pub pads_end : (n : ℕ) → n ≡ 0 → pads_zero xs at n ≡ true
  unfolding pads_zero
  pads_end n e = rw e

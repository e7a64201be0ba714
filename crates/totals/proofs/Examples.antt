-- Worked examples.
use mathlib.Core.Path.{◌≡◌, refl}
use Prim.Native.Nat.{ℕ, ◌-◌, ◌^◌}
use native.Mathlib.Nat.{zero-mul, dvd-sub, eq-one_of_dvd-one}
use native.Mathlib.Omega.{arith}
use Rattle.fields.specs.Counts.{units, no_qwc, qwcs, counts}
use Rattle.fields.specs.Fields.{if}
use Rattle.totals.specs.AddAnswer.{Added, Refused}
use Rattle.totals.specs.Totals.{totals, passes, any_passes, add_result, add_of}
use Rattle.totals.specs.Share.{share, NopShare}

-- a sum may be 2^64 - 1
pub just_fits : add_of (totals (2 ^ 64 - 2) 5 3 no_qwc) (counts (units 9 1 4 4) no_qwc) ≡ add_result Added (totals (2 ^ 64 - 1) 9 7 no_qwc)
unfolding add_of any_passes passes if
just_fits = refl

-- the last sum would pass it, and the first does not change
pub one_more : add_of (totals 7 5 3 (qwcs 0 0 0 0 0 0 0 (2 ^ 64 - 1))) (counts (units 1 1 1 1) (qwcs 0 0 0 0 0 0 0 1))
    ≡ add_result (Refused 54) (totals 7 5 3 (qwcs 0 0 0 0 0 0 0 (2 ^ 64 - 1)))
unfolding add_of any_passes passes if
one_more = refl

-- 6 NOPs among 9 words
pub two_thirds : NopShare 6 9 (share 2 3)
two_thirds = record { empty = λ z. absurd (omega arith); same = λ n. refl; lowest = λ d p q. eq-one_of_dvd-one (dvd-sub d q p) }

-- words without NOPs
pub no_nops : (words : ℕ) → (words ≡ 0 → ⊥) → NopShare 0 words (share 0 1)
no_nops words some = record { empty = λ z. absurd (some z); same = λ n. zero-mul words; lowest = λ d p q. eq-one_of_dvd-one q }

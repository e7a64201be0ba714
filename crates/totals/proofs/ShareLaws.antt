-- The share is in lowest terms, and there is no other.
use mathlib.Core.Path.{◌≡◌, refl, sym, ap, ◌∙◌}
use mathlib.Core.Bool.{Bool, true, false}
use Prim.Native.Nat.{ℕ, zero, suc, ◌*◌, ◌/◌, ◌<◌, ◌∣◌}
use native.Mathlib.Nat.{eq-one_of_dvd-one, pos_of_dvd_of_pos, mul-div_cancel', div-mul_cancel, mul-dvd-mul_right, dvd_of_mul-dvd-mul_right, mul_comm, mul_assoc, one-mul, mul-zero, zero-mul, dvd_refl, dvd-zero, dvd_antisymm, dvd-mul_right, dvd-mul_left, eq_of_mul-eq-mul_right}
use native.Mathlib.Omega.{arith}
use borrow.Author.Tests.{eqb-true, eqb-false}
use lib.Dec.{eqb}
use Rattle.totals.specs.declared.Share.{Share}
use Rattle.totals.specs.Share.{share, NopShare}
use Rattle.totals.specs.Inner.{Greatest}
use Rattle.totals.proofs.DivisorLaws.{scaled_divides}

-- no words
pub share_empty : (nops words : ℕ) → words ≡ 0 → NopShare nops words (share 0 1)
share_empty nops words z = record { empty = λ e. (refl, refl); same = λ n. absurd (n z); lowest = λ d p q. eq-one_of_dvd-one q }

module _ {nops words g : ℕ} (some : words ≡ 0 → ⊥) (d : Greatest nops words g) where
  pub divisor_some : 0 < g
  divisor_some = pos_of_dvd_of_pos d.second (omega arith)

  -- both divided by the greatest number that divides both
  pub share_divided : NopShare nops words (share (nops / g) (words / g))
  share_divided =
      record {
        empty = λ z. absurd (some z);
        same = λ n. crossed nops words g (nops / g) (words / g) (mul-div_cancel' g d.first) (mul-div_cancel' g d.second);
        lowest = λ k p q. eq-one_of_dvd-one (dvd_of_mul-dvd-mul_right k divisor_some (rw (one-mul g) (d.greatest (k * g) (times k nops d.first p) (times k words d.second q))));
      }
    where
      crossed : (a b g n w : ℕ) → g * n ≡ a → g * w ≡ b → n * b ≡ a * w
      crossed a b g n w ea eb = rw (← ea, ← eb) (sym (mul_assoc n g w) ∙ ap (λ (k : ℕ). k * w) (mul_comm n g))

      times : (k a : ℕ) → g ∣ a → k ∣ a / g → k * g ∣ a
      times k a h p = rw (← div-mul_cancel g h) (mul-dvd-mul_right k p g)

-- ---- the only one

-- no number above 1 divides both
abbrev Lowest : ℕ → ℕ → Type 0
Lowest n w = (d : ℕ) → d ∣ n → d ∣ w → d ≡ 1

-- of two shares that are the same the second number of each divides the other's
divides_other : (n w n' w' : ℕ) → Lowest n w → n * w' ≡ n' * w → w ∣ w'
divides_other n w n' w' l e =
    rw (one-mul w') at (scaled_divides w w' 1 (suc w) n w (omega arith) (λ d p q. rw (l d p q) (dvd_refl 1)) (rw e (dvd-mul_left w n')) (dvd-mul_right w w'))

-- nothing over nothing is not in lowest terms
some_below : (n w nops words : ℕ) → (words ≡ 0 → ⊥) → Lowest n w → n * words ≡ nops * w → 0 < w
some_below n zero nops words s l e =
    let z : n ≡ 0 = eq_of_mul-eq-mul_right words (omega arith) n 0 (e ∙ mul-zero nops ∙ sym (zero-mul words)) in
    let t = l 2 (rw z (dvd-zero 2)) (dvd-zero 2) in
    omega arith
some_below n (suc w) nops words s l e = omega arith

-- two shares of the same numbers
crossed_shares : (n w n' w' nops words : ℕ) → (words ≡ 0 → ⊥) → n * words ≡ nops * w → n' * words ≡ nops * w' → n * w' ≡ n' * w
crossed_shares n w n' w' nops words s e e' =
    eq_of_mul-eq-mul_right words (omega arith) (n * w') (n' * w)
    (turned n w' words ∙ ap (λ (k : ℕ). k * w') e ∙ turned nops w w' ∙ ap (λ (k : ℕ). k * w) (sym e') ∙ turned n' words w)
  where
    turned : (a b c : ℕ) → a * b * c ≡ a * c * b
    turned a b c = mul_assoc a b c ∙ ap (λ (k : ℕ). a * k) (mul_comm b c) ∙ sym (mul_assoc a c b)

-- there is one share at most
pub share_only : (nops words : ℕ) (r q : Share) → NopShare nops words r → NopShare nops words q → r ≡ q
share_only nops words r q a b = go (eqb words 0) refl
  where
    alike : {n w n' w' : ℕ} → n ≡ n' → w ≡ w' → share n w ≡ share n' w'
    alike e f = rw (e, f)

    go : (t : Bool) → eqb words 0 ≡ t → r ≡ q
    go true e =
        let z = eqb-true words 0 e in
        let x = a.empty z in
        let y = b.empty z in
        alike (x.0 ∙ sym y.0) (x.1 ∙ sym y.1)
    go false e =
        let s = eqb-false words 0 e in
        let c = crossed_shares r.nops r.words q.nops q.words nops words s (a.same s) (b.same s) in
        let w : r.words ≡ q.words = dvd_antisymm (divides_other r.nops r.words q.nops q.words a.lowest c) (divides_other q.nops q.words r.nops r.words b.lowest (sym c)) in
        let p = some_below r.nops r.words nops words s a.lowest (a.same s) in
        alike (eq_of_mul-eq-mul_right r.words p r.nops q.nops (ap (λ (k : ℕ). r.nops * k) w ∙ c)) w

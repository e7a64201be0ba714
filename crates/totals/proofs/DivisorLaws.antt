-- Common divisors, by Euclid.
use mathlib.Core.Path.{◌≡◌, refl, sym, ap, ◌∙◌}
use mathlib.Core.Bool.{Bool, true, false}
use Prim.Native.Nat.{ℕ, zero, suc, ◌+◌, ◌*◌, ◌/◌, ◌%◌, ◌<◌, ◌∣◌}
use native.Mathlib.Nat.{mul_assoc, add-mul, div-add-mod', mod-lt, dvd_refl, dvd-zero, dvd_trans, dvd-mod_iff, dvd-add_iff_right, dvd-mul_left_of_dvd, mul-dvd-mul_right}
use native.Mathlib.Omega.{arith}
use borrow.Author.Tests.{eqb-true, eqb-false}
use lib.Dec.{eqb}
use Rattle.totals.specs.Inner.{Greatest}

-- the same numbers divide both pairs
pub record SameDivisors (a b x y : ℕ) : Type 0 where
  pub onward : (d : ℕ) → d ∣ a → d ∣ b → (d ∣ x) × (d ∣ y)
  pub back : (d : ℕ) → d ∣ x → d ∣ y → (d ∣ a) × (d ∣ b)

pub same_begin : (a b : ℕ) → SameDivisors a b a b
same_begin a b = record { onward = λ d p q. (p, q); back = λ d p q. (p, q) }

-- one turn of Euclid
pub same_turn : {a b : ℕ} (x y : ℕ) → SameDivisors a b x y → SameDivisors a b y (x % y)
same_turn x y s =
    record {
      onward = λ d p q. let w = s.onward d p q in (w.1, (dvd-mod_iff d w.1).1 w.0);
      back = λ d p q. s.back d ((dvd-mod_iff d p).0 q) p;
    }

-- the last turn
pub same_ends : {a b : ℕ} (x y : ℕ) → y ≡ 0 → SameDivisors a b x y → Greatest a b x
same_ends x y z s =
    let w = s.back x (dvd_refl x) (rw z (dvd-zero x)) in
    record { first = w.0; second = w.1; greatest = λ d p q. (s.onward d p q).0 }

-- ---- common divisors of multiples

-- what divides k times both of two numbers divides k times the first's rest by the second
rest_divides : (m k a b : ℕ) → m ∣ a * k → m ∣ b * k → m ∣ a % b * k
rest_divides m k a b p q = (dvd-add_iff_right m (dvd-mul_left_of_dvd m q (a / b))).1 (rw split p)
  where
    split : a / b * (b * k) + a % b * k ≡ a * k
    split = ap (λ (x : ℕ). x + a % b * k) (sym (mul_assoc (a / b) b k)) ∙ sym (add-mul (a / b * b) (a % b) k) ∙ ap (λ (x : ℕ). x * k) (div-add-mod' a b)

-- and k times whatever all their common divisors divide: at once where the second is 0, else by the next turn of Euclid
turn_divides : (m k c a b : ℕ) → ((d : ℕ) → d ∣ a → d ∣ b → d ∣ c) → m ∣ a * k → ((b ≡ 0 → ⊥) → m ∣ c * k) → (t : Bool) → eqb b 0 ≡ t → m ∣ c * k
turn_divides m k c a b h p next true e = dvd_trans m p (mul-dvd-mul_right a (h a (dvd_refl a) (rw (eqb-true b 0 e) (dvd-zero a))) k)
turn_divides m k c a b h p next false e = next (eqb-false b 0 e)

pub scaled_divides : (m k c n a b : ℕ) → b < n → ((d : ℕ) → d ∣ a → d ∣ b → d ∣ c) → m ∣ a * k → m ∣ b * k → m ∣ c * k
scaled_divides m k c zero a b l h p q = absurd (omega arith)
scaled_divides m k c (suc n) a b l h p q =
    turn_divides m k c a b h p
    (λ z.
    let r : a % b < b = mod-lt a (omega arith) in
    scaled_divides m k c n b (a % b) (omega arith) (λ d x y. h d ((dvd-mod_iff d x).0 y) x) q (rest_divides m k a b p q))
    (eqb b 0) refl

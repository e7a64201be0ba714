-- A test of the numbers 0 to n-1: what is said by whether it holds of one, of how many, and of which first.
use mathlib.Core.Path.{◌≡◌, refl}
use mathlib.Core.Bool.{Bool, true, false}
use Prim.Native.Nat.{ℕ, zero, suc, ◌<◌, ◌≤◌}
use native.Mathlib.Omega.{arith}
use native.Mathlib.Numerals.{add-one}
use borrow.Author.Count.{below_none, below_more}
use borrow.Author.Tests.{ltb-true, ltb-false}
use Rattle.fields.specs.Fields.{if}
use Rattle.fields.proofs.ChoiceLaws.{if_ind_by, or_left, or_right}
use Rattle.compare.specs.Tests.{holds_of_some, how_many, first_of}

-- it holds of none of the numbers below n
pub record None (test : ℕ → Bool) (n : ℕ) : Type 0 where
  pub not : (i : ℕ) → i < n → test i ≡ false

-- f is the first of the numbers below n that it holds of, n where there is none
pub record First (test : ℕ → Bool) (n f : ℕ) : Type 0 where
  pub inside : f ≤ n
  pub before : None test f
  pub holds : f < n → test f ≡ true

-- no test answers both
pub never : {t : Bool} → t ≡ true → t ≡ false → ⊥
never {t} p q = let z : ◌≡◌ {A = ℕ} 0 1 = cc in omega arith

pub not_false_true : (t : Bool) → (t ≡ false → ⊥) → t ≡ true
not_false_true true h = refl
not_false_true false h = absurd (h refl)

module _ (test : ℕ → Bool) where
  pub none_zero : None test 0
  none_zero = record { not = below_none (λ (i : ℕ). test i ≡ false) }

  pub none_less : {n m : ℕ} → m ≤ n → None test n → None test m
  none_less h p = record { not = λ i l. p.not i (omega arith) }

  pub none_more : (n : ℕ) → None test n → test n ≡ false → None test (suc n)
  none_more n p q = record { not = λ i h. below_more (λ (i : ℕ). test i ≡ false) n p.not q i (rw (add-one n) h) }

  -- ---- whether it holds of one

  pub some_none : (n : ℕ) → holds_of_some test n ≡ false → None test n
  unfolding holds_of_some
  some_none zero h = none_zero
  some_none (suc n) h = none_more n (some_none n (or_left _ _ h)) (or_right (holds_of_some test n) _ h)

  pub none_some : (n : ℕ) → None test n → holds_of_some test n ≡ false
  unfolding holds_of_some
  none_some zero p = refl
  none_some (suc n) p = rw (none_some n (none_less (omega arith) p), p.not n (omega arith))

  pub some_at : (n i : ℕ) → i < n → test i ≡ true → holds_of_some test n ≡ true
  some_at n i h t = not_false_true (holds_of_some test n) (λ f. never t ((some_none n f).not i h))

  -- ---- of how many it holds

  pub count_small : (n : ℕ) → how_many test n ≤ n
  unfolding how_many
  count_small zero = omega arith
  count_small (suc n) =
      let h = count_small n in
      if_ind_by (λ (k : ℕ). k ≤ suc n) (test n) (λ t. omega arith) (λ f. omega arith)

  pub zero_none : (n : ℕ) → how_many test n ≡ 0 → None test n
  unfolding how_many
  zero_none zero = λ h. none_zero
  zero_none (suc n) =
      if_ind_by (λ (k : ℕ). k ≡ 0 → None test (suc n)) (test n) (λ t h. absurd (omega arith)) (λ f h. none_more n (zero_none n h) f)

  pub none_zero_count : (n : ℕ) → None test n → how_many test n ≡ 0
  unfolding how_many if
  none_zero_count zero p = refl
  none_zero_count (suc n) p = rw (p.not n (omega arith)) (none_zero_count n (none_less (omega arith) p))

  -- ---- the first

  pub first_is : (n : ℕ) → First test n (first_of test n)
  unfolding first_of
  first_is zero = record { inside = omega arith; before = none_zero; holds = λ h. absurd (omega arith) }
  first_is (suc n) =
      let p = first_is n in
      if_ind_by (First test (suc n)) _
      (λ t. record { inside = omega arith; before = p.before; holds = λ h. p.holds (ltb-true _ _ t) })
      (λ f.
      let q : None test n = none_less (ltb-false _ _ f) p.before in
      if_ind_by (First test (suc n)) (test n) (λ t. record { inside = omega arith; before = q; holds = λ h. t })
      (λ g. record { inside = omega arith; before = none_more n q g; holds = λ h. absurd (omega arith) }))

  pub end_none : (n : ℕ) → first_of test n ≡ n → None test n
  end_none n e = rw e at (first_is n).before

  pub none_end : (n : ℕ) → None test n → first_of test n ≡ n
  none_end n h =
      let f = first_is n in
      let l : first_of test n < n → ⊥ = λ l. never (f.holds l) (h.not _ l) in
      omega arith

-- two tests that answer alike below n
module _ (f g : ℕ → Bool) where
  pub first_alike : (n : ℕ) → ((i : ℕ) → i < n → f i ≡ g i) → first_of f n ≡ first_of g n
  unfolding first_of
  first_alike zero h = refl
  first_alike (suc n) h = rw (first_alike n (λ i l. h i (omega arith)), h n (omega arith))

  pub count_alike : (n : ℕ) → ((i : ℕ) → i < n → f i ≡ g i) → how_many f n ≡ how_many g n
  unfolding how_many
  count_alike zero h = refl
  count_alike (suc n) h = rw (count_alike n (λ i l. h i (omega arith)), h n (omega arith))

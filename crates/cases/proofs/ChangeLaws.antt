-- Changes counted and sent.
use Rattle.std.proofs.Common.{◌≡◌, ℕ, suc, ◌+◌, ◌-◌, ◌%◌, ◌^◌, ◌<◌, ◌≤◌, List, [], ◌∷◌, ◌∙◌, zero-add, arith, refl, true, false, not, eqb, eq-eqb, ne_eqb}
use native.Mathlib.Nat.{sub-zero}
use mir.Val.{bool_byte}
use Rattle.wire.specs.declared.Output.{Output}
use Rattle.wire.specs.Words.{if, sent_all}
use Rattle.cases.specs.Changes.{differs, count_from, counted, change_of, changes_from, changed}
use Rattle.cases.proofs.Laws.{sent_append, Sending, sends_on, sends_end}

-- one number counted
pub counts_differ : (x y : ℕ) → bool_byte (not (eqb x y)) ≡ differs x y
unfolding differs if
counts_differ x y = elim (eqb x y) as (λ t. bool_byte (not t) ≡ if t 0 1) [ true ↦ refl | false ↦ refl ]

-- one change sent, or none
pub same_change : (o : Output) (i x y : ℕ) (ws : List ℕ) → x ≡ y → o ≡ sent_all o.out o.at (change_of i ws x y)
unfolding change_of if
same_change o i x y ws h = rw (eq-eqb x y h)

pub other_change : (o : Output) (i x y : ℕ) (ws : List ℕ) {j : ℕ} {p q : Output} → (x ≡ y → ⊥) → j ≡ i % 2 ^ 32
    → p ≡ sent_all o.out o.at (j ∷ []) → q ≡ sent_all p.out p.at ws → q ≡ sent_all o.out o.at (change_of i ws x y)
unfolding change_of if
other_change o i x y ws h e f g = rw (ne_eqb x y h) (sent_append o (i % 2 ^ 32 ∷ []) ws (rw e at f) g)

-- a loop that counts the changes of n numbers modulo 2 ^ 32: those from number i on are left
pub record Counting (g h : ℕ → ℕ) (n c i : ℕ) : Type 0 where
  pub most : i ≤ n
  pub small : c < 2 ^ 32
  pub same : (c + count_from g h i (n - i)) % 2 ^ 32 ≡ counted g h n

module _ {g h : ℕ → ℕ} {n : ℕ} where
  pub counts_begin : Counting g h n 0 0
  counts_begin = record { most = omega arith; small = omega arith; same = simp (sub-zero, zero-add) }

  pub counts_on : {c i x y r : ℕ} → Counting g h n c i → i < n → x ≡ g i → y ≡ h i → r ≡ (c + differs x y) % 2 ^ 32 → Counting g h n r (i + 1)
  counts_on {c} {i} {x} {y} {r} s l p q e =
      let m : n - i ≡ suc (n - (i + 1)) = omega arith in
      record { most = omega arith; small = omega arith; same = rw (e, p, q) (omega arith) ∙ rw m at s.same }

  pub counts_end : {c i : ℕ} → Counting g h n c i → n ≤ i → c ≡ counted g h n
  counts_end {c} {i} s l =
      let m : n - i ≡ 0 = omega arith in
      omega (arith, rw m at s.same)

-- changes sent one after another
module _ (w : ℕ → List ℕ) (g h : ℕ → ℕ) {n i : ℕ} {first o : Output} (s : Sending (changes_from w g h) n first o i) where
  pub changes_on : {x y : ℕ} {p : Output} → i < n → x ≡ g i → y ≡ h i → p ≡ sent_all o.out o.at (change_of i (w x) x y)
      → Sending (changes_from w g h) n first p (i + 1)
  changes_on {x} {y} l p q e =
      sends_on (change_of i (w x) x y) s l (let k : n - i ≡ suc (n - (i + 1)) = omega arith in rw (k, p, q)) e

  pub changes_end : n ≤ i → o ≡ sent_all first.out first.at (changed w g h n)
  changes_end l = sends_end s (let m : n - i ≡ 0 = omega arith in rw m)

-- One turn of the loop over elements.
use mathlib.Core.Path.{◌≡◌, refl, ◌∙◌}
use mathlib.Core.Bool.{Bool, true, false}
use mathlib.Core.List.{List}
use Prim.Native.Nat.{ℕ, suc, ◌+◌, ◌*◌, ◌<◌, ◌≤◌}
use native.Mathlib.Nat.{mul-suc, mul-le-mul_left, le_antisymm}
use native.Mathlib.Numerals.{add-one}
use lib.Dec.{ltb}
use borrow.Author.Rules.{rules}
use borrow.Author.Tests.{ltb-false}
use Rattle.fields.specs.Fields.{if}
use Rattle.compare.specs.declared.Found.{Found}
use Rattle.compare.specs.Tests.{how_many, first_of}
use Rattle.compare.specs.Elements.{found}
use Rattle.compare.specs.Inner.{Inside, found_by, found_after}
use Rattle.compare.proofs.TestLaws.{count_small, first_is}

-- ---- elements

-- an element lies within the elements
pub element_room : (size n i : ℕ) → i < n → size * i + size ≤ size * n
element_room size n i h = rw (← mul-suc size i) (mul-le-mul_left size h)

pub element_inside : {T : Type 0} (size n i : ℕ) (a b : List T) → i < n → Inside (size * n) a b → Inside (size * i + size) a b
element_inside size n i a b h p =
    let m = element_room size n i h in
    search rules

-- one element more, by its test and by whether one before it was found
after_turn : (f k i : ℕ) → f ≤ i → (t l : Bool) → ltb f i ≡ l
    → found_after (found f k) i t ≡ found (if (ltb f i) f (if t i (suc i))) (if t (suc k) k)
unfolding found_after if
after_turn f k i h true true e = rw (e, add-one k)
after_turn f k i h true false e =
    let q : f ≡ i = le_antisymm h (ltb-false f i e) in
    rw (e, add-one k, q)
after_turn f k i h false true e = rw e
after_turn f k i h false false e = rw (e, add-one i)

module _ (test : ℕ → Bool) (i : ℕ) {f : Found} (e : f ≡ found_by test i) where
  pub found_small : f.count ≤ i
  unfolding found_by
  found_small = rw e (count_small test i)

  pub element_passed : {d : Bool} {r : Found} → d ≡ test i → r ≡ found_after f i d → r ≡ found_by test (i + 1)
  unfolding found_by first_of how_many
  element_passed p q = q ∙ rw (e, p, add-one i) (after_turn _ _ i (first_is test i).inside (test i) _ refl)

-- Elements that are equal, as parts of lists.
use mathlib.Core.Path.{◌≡◌, refl, sym, ap, ◌∙◌}
use mathlib.Core.Bool.{Bool, true, false, not}
use mathlib.Core.List.{List}
use Prim.Native.Nat.{ℕ, ◌+◌, ◌-◌, ◌*◌, ◌/◌, ◌%◌, ◌<◌, ◌≤◌}
use native.Mathlib.Nat.{mul_comm, mul-le-mul_left, mod-lt, div-add-mod, div-lt_iff_lt-mul}
use native.Mathlib.Omega.{arith}
use lib.ListN.{length, get_or, take, drop, length-drop}
use lib.Seq.{ext_get_or, get_or-take, get_or-drop, length-take-le}
use borrow.Author.Rules.{rules}
use borrow.Author.Tests.{eq-eqb, eqb-true, not-false}
use Rattle.std.specs.Prelude.{nat_eq, slice_range}
use Rattle.std.specs.Cmp.Lexicographic.{pointwise}
use Rattle.std.proofs.lemmas.Slice.Eq.{bytes_eq-Decides}
use Rattle.compare.specs.Elements.{number_differs, differs, found_in}
use Rattle.compare.specs.Inner.{Inside, unequal, found_by}
use Rattle.compare.specs.Equal.{EqualTo, FirstDifference, Says}
use Rattle.compare.specs.Tests.{first_of, how_many}
use Rattle.compare.proofs.ElementLaws.{element_room, element_inside}
use Rattle.compare.proofs.TestLaws.{first_alike, count_alike, None, never, some_none, none_some, zero_none, none_zero_count, first_is, end_none, none_end}

-- ---- lists that are equal in their first numbers

module _ (a b : List ℕ) (m : ℕ) where
  take_numbers : take m a ≡ take m b → (k : ℕ) → k < m → get_or a k 0 ≡ get_or b k 0
  take_numbers e k h = sym (get_or-take m a k 0 h) ∙ ap (λ (l : List ℕ). get_or l k 0) e ∙ get_or-take m b k 0 h

  numbers_take : m ≤ length a → m ≤ length b → ((k : ℕ) → k < m → get_or a k 0 ≡ get_or b k 0) → take m a ≡ take m b
  numbers_take p q h =
      let x = length-take-le m a p in
      let y = length-take-le m b q in
      ext_get_or 0 (take m a) (take m b) (x ∙ sym y)
      (λ k l.
      let t : k < m = omega arith in
      get_or-take m a k 0 t ∙ h k t ∙ sym (get_or-take m b k 0 t))

-- ---- one element

module _ (size : ℕ) (a b : List ℕ) (i : ℕ) where
  element_numbers : differs size a b i ≡ false → (j : ℕ) → j < size → get_or a (size * i + j) 0 ≡ get_or b (size * i + j) 0
  unfolding differs number_differs
  element_numbers h j l = eqb-true _ _ (not-false _ ((some_none (number_differs a b (size * i)) size h).not j l))

  numbers_element : ((j : ℕ) → j < size → get_or a (size * i + j) 0 ≡ get_or b (size * i + j) 0) → differs size a b i ≡ false
  unfolding differs number_differs
  numbers_element h =
      none_some (number_differs a b (size * i)) size (record { not = λ j l. ap not (eq-eqb _ _ (h j l)) })

  equal_element : take size (drop (size * i) a) ≡ take size (drop (size * i) b) → differs size a b i ≡ false
  equal_element e =
      numbers_element
      (λ j l. sym (get_or-drop (size * i) a j 0) ∙ take_numbers (drop (size * i) a) (drop (size * i) b) size e j l ∙ get_or-drop (size * i) b j 0)

-- ---- one element, by what == says of its numbers

opposite : (p d : Bool) → (p ≡ true → d ≡ false) → (d ≡ false → p ≡ true) → not p ≡ d
opposite true true f g = sym (f refl)
opposite true false f g = refl
opposite false true f g = refl
opposite false false f g = sym (g refl)

module _ (size : ℕ) (a b : List ℕ) where
  element_taken : (i : ℕ) → Inside (size * i + size) a b → differs size a b i ≡ false
      → slice_range a (size * i) (size * i + size) ≡ slice_range b (size * i) (size * i + size)
  element_taken i p h =
      let x = length-drop (size * i) a in
      let y = length-drop (size * i) b in
      let z : size * i + size - size * i ≡ size = omega arith in
      let l = p.left in
      let r = p.right in
      rw z
      (numbers_take (drop (size * i) a) (drop (size * i) b) size (omega arith) (omega arith)
      (λ j k. get_or-drop (size * i) a j 0 ∙ element_numbers size a b i h j k ∙ sym (get_or-drop (size * i) b j 0)))

  taken_element : (i : ℕ) → slice_range a (size * i) (size * i + size) ≡ slice_range b (size * i) (size * i + size) → differs size a b i ≡ false
  taken_element i e =
      let z : size * i + size - size * i ≡ size = omega arith in
      equal_element size a b i (rw z at e)

  unequal_differs : (i : ℕ) → Inside (size * i + size) a b → unequal nat_eq size a b i ≡ differs size a b i
  unequal_differs i p =
      let x = slice_range a (size * i) (size * i + size) in
      let y = slice_range b (size * i) (size * i + size) in
      let d = bytes_eq-Decides x y in
      opposite (pointwise nat_eq x y) (differs size a b i) (λ t. taken_element i (d.0 t)) (λ f. d.1 (element_taken i p f))

  -- what is found in lists of numbers
  pub numbers_found : (n : ℕ) → Inside (size * n) a b → found_by (unequal nat_eq size a b) n ≡ found_in size a b n
  unfolding found_by found_in
  numbers_found n p =
      let same : (i : ℕ) → i < n → unequal nat_eq size a b i ≡ differs size a b i = λ i h. unequal_differs i (element_inside size n i a b h p) in
      rw (first_alike (unequal nat_eq size a b) (differs size a b) n same, count_alike (unequal nat_eq size a b) (differs size a b) n same)

-- ---- n elements

module _ (size : ℕ) (a b : List ℕ) (n : ℕ) where
  equal_none : EqualTo size a b n → None (differs size a b) n
  equal_none e =
      record { not = λ i h. numbers_element size a b i (λ j l. let r = element_room size n i h in take_numbers a b (size * n) e _ (omega arith)) }

  none_equal : 0 < size → Inside (size * n) a b → None (differs size a b) n → EqualTo size a b n
  none_equal s p h =
      numbers_take a b (size * n) p.left p.right
      (λ k l.
      let m : k < n * size = rw (mul_comm n size) l in
      let e = element_numbers size a b (k / size) (h.not (k / size) ((div-lt_iff_lt-mul s).1 m)) (k % size) (mod-lt k s) in
      rw (div-add-mod k size) at e)

-- ---- what is found

module _ (size : ℕ) (a b : List ℕ) (n : ℕ) (s : 0 < size) (p : Inside (size * n) a b) where
  first_difference_lem : (how_many (differs size a b) n ≡ 0 → ⊥) → FirstDifference size a b n (first_of (differs size a b) n)
  first_difference_lem z =
      let f = first_is (differs size a b) n in
      let m = mul-le-mul_left size f.inside in
      let w : first_of (differs size a b) n ≡ n → ⊥ = λ e. z (none_zero_count (differs size a b) n (end_none (differs size a b) n e)) in
      let l : first_of (differs size a b) n < n = omega arith in
      record {
        inside = l;
        before = none_equal size a b _ s (search rules) f.before;
        unequal = λ e. never (f.holds l) (equal_element size a b _ e);
      }

  pub found_says : Says size a b n (found_in size a b n)
  unfolding found_in
  found_says =
      record {
        none = (λ z. none_equal size a b n s p (zero_none (differs size a b) n z), λ e. none_zero_count (differs size a b) n (equal_none size a b n e));
        end = (λ z. none_equal size a b n s p (end_none (differs size a b) n z), λ e. none_end (differs size a b) n (equal_none size a b n e));
        first = first_difference_lem;
      }

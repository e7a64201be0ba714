-- Words of a block, and tables by number.
use mathlib.Core.Path.{◌≡◌, refl, sym}
use mathlib.Core.Bool.{Bool, true, false}
use mathlib.Core.List.{List, [], ◌∷◌}
use mathlib.Core.Logic.{◌⊎◌, inl, inr}
use Prim.Native.Nat.{ℕ, ◌/◌, ◌%◌, ◌^◌}
use native.Mathlib.Nat.{mod-add-div'}
use borrow.Author.Tests.{eqb-true}
use native.Mathlib.Omega.{arith}
use lib.ListN.{length}
use lib.Dec.{eqb, leb}
use Rattle.std.specs.Prelude.{Option, Some, None}
use Rattle.std.specs.Bool.{then_some}
use Rattle.std.specs.Array.{IsWholeChunk}
use Rattle.std.specs.Option.{unwrap_or}
use Rattle.std.specs.Int.{from_bool}
use Rattle.fields.proofs.ChoiceLaws.{if_ind_by}
use Rattle.state_block.specs.Words.{bit_of, long_of, numbered}

-- a bit's word is a bit's, and gives it back
pub bit_is : (i : Bool) → leb (bit_of i) 1 ≡ true
bit_is true = refl
bit_is false = refl

pub bit_back : (i : Bool) → eqb (bit_of i) 1 ≡ i
bit_back true = refl
bit_back false = refl

pub long_back : (x : ℕ) → long_of (x % 2 ^ 32) (x / 2 ^ 32) ≡ x
long_back x = mod-add-div' x (2 ^ 32)

-- the row that a table gives has the number, or it is the one that stands for none
pub has_number : {A : Type 0} (number : A → ℕ) (n : ℕ) (rows : List A) (none : A)
    → (number (numbered number n rows none) ≡ n) ⊎ (numbered number n rows none ≡ none)
unfolding numbered
has_number number n [] none = inr refl
has_number {A} number n (row ∷ rows) none =
    if_ind_by (λ (x : A). (number x ≡ n) ⊎ (x ≡ none)) (eqb n (number row)) (λ h. inl (sym (eqb-true _ _ h))) (λ h. has_number number n rows none)

-- a bit as a number of Rust
pub bit_from : (i : Bool) → from_bool i ≡ bit_of i
bit_from true = refl
bit_from false = refl

pub true_false : true ≡ false → ⊥
true_false h = let z : ◌≡◌ {A = ℕ} 0 1 = cc in omega arith

-- what was handed out by a test
pub then_none : {A : Type 0} (t : Bool) (x : A) → None ≡ then_some t x → t ≡ false
then_none true x h = absurd (none_some x h)
  where
    none_some : {A : Type 0} (x : A) → ◌≡◌ {A = Option A} None (Some x) → ⊥
    none_some x h = cc
then_none false x h = refl

pub then_is : {A : Type 0} (t : Bool) (x y : A) → Some y ≡ then_some t x → (t ≡ true) × (y ≡ x)
then_is true x y h = (refl, cc)
then_is false x y h = absurd (some_none y h)
  where
    some_none : {A : Type 0} (y : A) → ◌≡◌ {A = Option A} (Some y) None → ⊥
    some_none y h = cc

-- and what is given in its place
pub given : {A : Type 0} (t : Bool) (x y : A) → (t ≡ false → x ≡ y) → unwrap_or (then_some t x) y ≡ x
given true x y h = refl
given false x y h = sym (h refl)

-- the words of an array that a list was read as
pub chunk_length : {b y : List ℕ} {n : ℕ} → IsWholeChunk b y n → length y ≡ n
chunk_length w = rw w.same w.long

-- Words of a block, and tables by number.
use Rattle.std.specs.Prelude.{ℕ, ◌+◌, ◌*◌, ◌^◌, Bool, true, false, List, [], ◌∷◌, get_or, eqb, leb}
use Rattle.fields.specs.Fields.{if}

abbrev pub bit_of : Bool → ℕ
bit_of true = 1
bit_of false = 0

-- whether a word is a bit's, and the bit
abbrev pub is_bit : List ℕ → ℕ → Bool
is_bit b i = leb (get_or b i 0) 1

abbrev pub bit_at : List ℕ → ℕ → Bool
bit_at b i = eqb (get_or b i 0) 1

-- the 64 bits of two words, the low one first
abbrev pub long_of : ℕ → ℕ → ℕ
long_of low high = low + high * 2 ^ 32

-- the row of a table that has a number, else what stands for none
unfoldable pub numbered : {A : Type 0} → (A → ℕ) → ℕ → List A → A → A
numbered number n [] none = none
numbered number n (row ∷ rows) none = if (eqb n (number row)) row (numbered number n rows none)

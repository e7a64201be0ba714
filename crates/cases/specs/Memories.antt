-- Memories as a case fills them, and as words (docs/FORMATS.md).
use Rattle.std.specs.Prelude.{◌≡◌, ℕ, zero, suc, ◌+◌, ◌*◌, ◌/◌, ◌%◌, ◌^◌, List, [], ◌∷◌, ◌++◌, length}
use native.Mathlib.Nat.{mod-mod_of_dvd, dvd_of_mod-eq-zero}
use Rattle.wire.specs.Words.{whole_at, word_at}

-- n numbers, number i by a rule, from a number on
abbrev pub ruled_from : {A : Type 0} → (ℕ → A) → ℕ → ℕ → List A
ruled_from g i zero = []
ruled_from g i (suc n) = g i ∷ ruled_from g (i + 1) n

abbrev pub ruled : {A : Type 0} → (ℕ → A) → ℕ → List A
ruled g n = ruled_from g 0 n

-- "F + i x K", below m
unfoldable pub fill_number : ℕ → ℕ → ℕ → ℕ
fill_number m f i = (f + i * 11400714819323198485) % m

-- n numbers made of the low bits of "F + i x K"
abbrev pub filled : {A : Type 0} → (ℕ → A) → ℕ → ℕ → List A
filled low f n = ruled (λ i. low (f + i * 11400714819323198485)) n

-- word i from a place on, 0 where it is not whole
abbrev pub word_from : List ℕ → ℕ → ℕ → ℕ
word_from b a i = word_at b (a + 4 * i)

-- word k of a byte memory; bytes beyond its end are zero
abbrev pub byte_word : List ℕ → ℕ → ℕ
byte_word b k = whole_at b (4 * k)

-- "Bytes as words: the last word is filled up with zero bytes."
abbrev pub bytes_words : List ℕ → List ℕ
bytes_words b = ruled (byte_word b) ((length b + 3) / 4)

-- "two words for each number"
abbrev pub longs_words : List ℕ → List ℕ
longs_words [] = []
longs_words (x ∷ xs) = x % 2 ^ 32 ∷ x / 2 ^ 32 ∷ longs_words xs

-- data memory, code memory and log
abbrev pub memories_words : List ℕ → List ℕ → List ℕ → List ℕ
memories_words mem code log = mem ++ (bytes_words code ++ longs_words log)

abbrev pub sum_of : List ℕ → ℕ
sum_of [] = 0
sum_of (x ∷ xs) = x + sum_of xs

-- the low bits of a number's low 64 bits, as many as a width has
pub low_wraps : (m : ℕ) → 2 ^ 64 % m ≡ 0 → (x : ℕ) → x % 2 ^ 64 % m ≡ x % m
low_wraps m h x = mod-mod_of_dvd m x (dvd_of_mod-eq-zero m h)

-- Little-endian words of a byte buffer.
use Rattle.std.specs.Prelude.{ℕ, ◌+◌, ◌*◌, ◌/◌, ◌%◌, ◌^◌, Bool, true, false, List, [], ◌∷◌, length, get_or, set, leb, ltb}
use Rattle.wire.specs.declared.Output.{Output}

-- the choice by a test
unfoldable pub if : {A : Type 0} → Bool → A → A → A
if true a b = a
if false a b = b

abbrev pub whole_at : List ℕ → ℕ → ℕ
whole_at b a =
    get_or b a 0 + get_or b (a + 1) 0 * 256 + get_or b (a + 2) 0 * 65536 + get_or b (a + 3) 0 * 16777216

abbrev pub stored_at : List ℕ → ℕ → ℕ → List ℕ
stored_at b a x =
    set (set (set (set b a (x % 256)) (a + 1) (x / 256 % 256)) (a + 2) (x / 65536 % 256)) (a + 3) (x / 16777216)

-- the word at a place, 0 where it is not whole
unfoldable pub word_at : List ℕ → ℕ → ℕ
word_at b a = if (leb (a + 4) (length b)) (whole_at b a) 0

-- the buffer with a word stored, as it was where the word does not fit
unfoldable pub with_word : List ℕ → ℕ → ℕ → List ℕ
with_word b a x = if (leb (a + 4) (length b)) (stored_at b a x) b

-- the place after a word that was put into a buffer of 65,536 bytes, at its start where it was full
unfoldable pub next_place : ℕ → ℕ
next_place a = if (ltb 65532 a) 4 (a + 4)

unfoldable pub emitted : List ℕ → ℕ → ℕ → List ℕ
emitted b a x = if (ltb 65532 a) (with_word b 0 x) (with_word b a x)

-- a buffer and the place in it
abbrev pub sent : List ℕ → ℕ → Output
sent out at = record { out = out; at = at }

-- the words of a word, and those of a 64-bit number
abbrev pub one : ℕ → List ℕ
one x = x ∷ []

abbrev pub two : ℕ → List ℕ
two x = x % 2 ^ 32 ∷ x / 2 ^ 32 ∷ []

-- words put into the buffer, one after another
abbrev pub sent_all : List ℕ → ℕ → List ℕ → Output
sent_all out at [] = sent out at
sent_all out at (x ∷ xs) = sent_all (emitted out at x) (next_place at) xs

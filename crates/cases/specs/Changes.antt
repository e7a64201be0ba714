-- What changed in a memory, as words (docs/FORMATS.md, "VIF cases"). Numbers beyond a memory's end are 0.
use Rattle.std.specs.Prelude.{ℕ, zero, suc, ◌+◌, ◌/◌, ◌%◌, ◌^◌, List, [], ◌∷◌, ◌++◌, length, ◌==◌, slice_index}
use Rattle.wire.specs.Words.{if, one, two}
use Rattle.cases.specs.Memories.{ruled, byte_word}

-- 1 where two numbers differ
unfoldable pub differs : ℕ → ℕ → ℕ
differs x y = if (x == y) 0 1

-- how many of n numbers differ by two rules, from a number on
abbrev pub count_from : (ℕ → ℕ) → (ℕ → ℕ) → ℕ → ℕ → ℕ
count_from g h i zero = 0
count_from g h i (suc n) = differs (g i) (h i) + count_from g h (i + 1) n

-- the change of number i from y to x, whose words are given: "the index and the new value"; none where they are equal
unfoldable pub change_of : ℕ → List ℕ → ℕ → ℕ → List ℕ
change_of i words x y = if (x == y) [] (i % 2 ^ 32 ∷ words)

-- the changes of n numbers, from a number on
abbrev pub changes_from : (ℕ → List ℕ) → (ℕ → ℕ) → (ℕ → ℕ) → ℕ → ℕ → List ℕ
changes_from w g h i zero = []
changes_from w g h i (suc n) = change_of i (w (g i)) (g i) (h i) ++ changes_from w g h (i + 1) n

-- "a word c, and then c times" the changes
abbrev pub counted : (ℕ → ℕ) → (ℕ → ℕ) → ℕ → ℕ
counted g h n = count_from g h 0 n % 2 ^ 32

abbrev pub changed : (ℕ → List ℕ) → (ℕ → ℕ) → (ℕ → ℕ) → ℕ → List ℕ
changed w g h n = changes_from w g h 0 n

abbrev pub number_in : List ℕ → ℕ → ℕ
number_in l i = slice_index l i

abbrev pub words_in : List ℕ → ℕ
words_in bytes = (length bytes + 3) / 4

-- both
abbrev pub changes : (ℕ → List ℕ) → (ℕ → ℕ) → (ℕ → ℕ) → ℕ → List ℕ
changes w g h n = counted g h n ∷ changed w g h n

-- of data memory, of code memory by 32-bit words, and of the log
abbrev pub word_changes : List ℕ → List ℕ → List ℕ
word_changes after before =
    counted (number_in after) (number_in before) (length before) ∷ changed one (number_in after) (number_in before) (length before)

abbrev pub byte_changes : List ℕ → List ℕ → List ℕ
byte_changes after before =
    counted (byte_word after) (byte_word before) (words_in before) ∷ changed one (byte_word after) (byte_word before) (words_in before)

abbrev pub long_changes : List ℕ → List ℕ → List ℕ
long_changes after before =
    counted (number_in after) (number_in before) (length before) ∷ changed two (number_in after) (number_in before) (length before)

-- what is taken over: as many numbers as there were before
abbrev pub kept : List ℕ → List ℕ → List ℕ
kept after before = ruled (number_in after) (length before)

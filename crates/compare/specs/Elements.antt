-- Elements of two lists: element i is the numbers size*i to size*i+size-1 of each. A quadword is 4 words of a data memory, an instruction 8 bytes of a code
-- memory, an entry the numbers of a log that it takes, its path, register and value.
use Rattle.std.specs.Prelude.{ℕ, ◌+◌, ◌*◌, Bool, not, List, get_or, drop, eqb}
use Rattle.compare.specs.declared.Found.{Found}
use Rattle.compare.specs.Tests.{holds_of_some, how_many, first_of}

-- the numbers at a place differ
abbrev pub not_equal : List ℕ → List ℕ → ℕ → Bool
not_equal a b k = not (eqb (get_or a k 0) (get_or b k 0))

-- number j of those from a place on differs
unfoldable pub number_differs : List ℕ → List ℕ → ℕ → ℕ → Bool
number_differs a b at j = not_equal a b (at + j)

-- element i differs: one of its numbers does
unfoldable pub differs : ℕ → List ℕ → List ℕ → ℕ → Bool
differs size a b i = holds_of_some (number_differs a b (size * i)) size

-- the first of n elements that differs, n where none does
abbrev pub first_differing : ℕ → List ℕ → List ℕ → ℕ → ℕ
first_differing size a b n = first_of (differs size a b) n

-- how many of n elements differ
abbrev pub count_differing : ℕ → List ℕ → List ℕ → ℕ → ℕ
count_differing size a b n = how_many (differs size a b) n

abbrev pub found : ℕ → ℕ → Found
found first count = record { first = first; count = count }

-- the first of n elements that differs, and how many do
unfoldable pub found_in : ℕ → List ℕ → List ℕ → ℕ → Found
found_in size a b n = found (first_differing size a b n) (count_differing size a b n)

-- the same of the n elements from an element on: the first that differs, from + n where none does, and how many do
unfoldable pub found_from : ℕ → ℕ → List ℕ → List ℕ → ℕ → Found
found_from size from a b n =
    let f = found_in size (drop (size * from) a) (drop (size * from) b) n in
    found (from + f.first) f.count

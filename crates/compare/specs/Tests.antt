-- A test of the numbers 0 to n-1: whether it holds of one, of how many, and of which first.
use Rattle.std.specs.Prelude.{ℕ, zero, suc, Bool, false, ◌||◌, ltb}
use Rattle.fields.specs.Fields.{if}

-- whether it holds of some
unfoldable pub holds_of_some : (ℕ → Bool) → ℕ → Bool
holds_of_some test zero = false
holds_of_some test (suc n) = holds_of_some test n || test n

-- of how many it holds
unfoldable pub how_many : (ℕ → Bool) → ℕ → ℕ
how_many test zero = 0
how_many test (suc n) = if (test n) (suc (how_many test n)) (how_many test n)

-- the first of which it holds, n where there is none: one found earlier stays, else n is looked at
unfoldable pub first_of : (ℕ → Bool) → ℕ → ℕ
first_of test zero = 0
first_of test (suc n) = if (ltb (first_of test n) n) (first_of test n) (if (test n) n (suc n))

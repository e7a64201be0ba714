-- What can be said of bytes read from standard input.
use Rattle.std.specs.Prelude.{◌≡◌, ℕ, ◌≤◌, Bool, true, List, length, drop}

-- a buffer before and after so many bytes were to be read into its start, and whether they were
pub record PartRead (before : List ℕ) (size : ℕ) (whole : Bool) (after : List ℕ) : Type 0 where
  pub fits : whole ≡ true → size ≤ length before
  pub rest : drop size after ≡ drop size before

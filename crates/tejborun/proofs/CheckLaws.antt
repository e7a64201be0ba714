-- A supplier's chain beside a sheet.
use mathlib.Core.Path.{◌≡◌}
use mathlib.Core.List.{List, ◌∷◌}
use Prim.Native.Nat.{ℕ, ◌+◌, ◌<◌, ◌≤◌}
use borrow.Author.Tests.{lt-ltb, le-ltb}
use lib.ListN.{length}
use Rattle.fields.specs.Counts.{count_numbers}
use Rattle.fields.specs.Fields.{if}
use Rattle.memories.specs.Lengths.{Lent}
use Rattle.supplier.specs.Check.{Checked, check_of, check_kind, check_number, check_offset}
use Rattle.tejborun.specs.Buffers.{short, written}
use Rattle.tejborun.specs.Runs.{counts_size}
use Rattle.tejborun.specs.Checks.{left, check_call}

module _ (sheet main : List ℕ) (m : Lent) (allowance : ℕ) (result : List ℕ) where
  pub check_short : length result < 3 + counts_size → left short m result ≡ check_call sheet main m allowance result
  unfolding check_call if
  check_short h = rw (lt-ltb (length result) (3 + counts_size) h)

  pub check_told : 3 + counts_size ≤ length result → {x : Checked} → x ≡ check_of sheet main m allowance → {number offset : ℕ} → number ≡ check_number x.answer → offset ≡ check_offset x.answer
      → {numbers : List ℕ}
      → numbers ≡ written (number ∷ offset ∷ x.used ∷ count_numbers x.counts) result
      → {n : ℕ}
      → n ≡ check_kind x.answer
      → left n x.memories numbers ≡ check_call sheet main m allowance result
  unfolding check_call if
  check_told h e p o w k = rw (le-ltb (length result) (3 + counts_size) h, ← e, w, p, o, k)

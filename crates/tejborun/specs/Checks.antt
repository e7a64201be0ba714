-- A supplier's chain beside a sheet.
use Rattle.std.specs.Prelude.{ℕ, ◌+◌, List, ◌∷◌, length, ltb}
use Rattle.fields.specs.Counts.{count_numbers}
use Rattle.fields.specs.Fields.{if}
use Rattle.memories.specs.Lengths.{Lent}
use Rattle.supplier.specs.Check.{Checked, check_of, check_kind, check_number, check_offset}
use Rattle.tejborun.specs.Buffers.{short, written}
use Rattle.tejborun.specs.Runs.{counts_size}

-- the number, the offset of the refused record, the entries used by the run and its counts
abbrev pub check_numbers : Checked → List ℕ
check_numbers x = check_number x.answer ∷ check_offset x.answer ∷ x.used ∷ count_numbers x.counts

-- what is left: the answer's kind, the memories and the result
pub record Left : Type 0 where
  pub answer : ℕ
  pub memories : Lent
  pub result : List ℕ

abbrev pub left : ℕ → Lent → List ℕ → Left
left n m result = record { answer = n; memories = m; result = result }

abbrev pub check_left : Checked → List ℕ → Left
check_left x result = left (check_kind x.answer) x.memories (written (check_numbers x) result)

unfoldable pub check_call : List ℕ → List ℕ → Lent → ℕ → List ℕ → Left
check_call sheet main m allowance result =
    if (ltb (length result) (3 + counts_size)) (left short m result) (check_left (check_of sheet main m allowance) result)

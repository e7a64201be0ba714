-- What inner functions require of their input, and what they make of it; no promise of a public function cites them.
use Rattle.std.specs.Prelude.{ℕ, ◌+◌, ◌*◌, ◌≤◌, Bool, true, false, not, ◌≡◌, List, length, slice_range, ltb}
use Rattle.std.specs.Cmp.Lexicographic.{pointwise}
use Rattle.fields.specs.Fields.{if}
use Rattle.gif.specs.Log.{log_most}
use Rattle.memories.specs.declared.VifUnit.{VifUnit}
use Rattle.compare.specs.declared.Found.{Found}
use Rattle.compare.specs.Tests.{how_many, first_of}
use Rattle.compare.specs.Elements.{found}
use Rattle.compare.specs.Boards.{Memories, data_refused, code_refused}
use Rattle.compare.specs.Within.{beyond}

-- two lists have at least n numbers, and n is in the range of a log's length
pub record Inside {T : Type 0} (n : ℕ) (a b : List T) : Type 0 where
  pub small : n ≤ log_most
  pub left : n ≤ length a
  pub right : n ≤ length b

-- a unit's memories are not refused
pub record UnitFits (parts : ℕ) (u : VifUnit) (a b : Memories) : Type 0 where
  pub mem : data_refused parts u a.mem b.mem ≡ false
  pub code : code_refused parts u a.code b.code ≡ false

-- a range lies in a unit's data memories, which are not refused, where they are asked for
pub record RangeFits (parts : ℕ) (u : VifUnit) (first last : ℕ) (a b : List ℕ) : Type 0 where
  pub order : first ≤ last
  pub inside : beyond parts u last ≡ false
  pub mem : data_refused parts u a b ≡ false

-- element i of two lists of any type is not the same, by what == says of that type
abbrev pub unequal : {T : Type 0} → (T → T → Bool) → ℕ → List T → List T → ℕ → Bool
unequal equal size a b i = not (pointwise equal (slice_range a (size * i) (size * i + size)) (slice_range b (size * i) (size * i + size)))

-- the first of n elements that a test holds of, and of how many it holds
unfoldable pub found_by : (ℕ → Bool) → ℕ → Found
found_by test n = found (first_of test n) (how_many test n)

-- what is found in the elements below i, and in element i
unfoldable pub found_after : Found → ℕ → Bool → Found
found_after f i true = found f.first (f.count + 1)
found_after f i false = if (ltb f.first i) f (found (i + 1) f.count)

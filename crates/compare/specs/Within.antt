-- A range of quadwords: the data memories that are asked for are compared in quadwords first to last alone, all else as without a range.
use Rattle.std.specs.Prelude.{ℕ, ◌+◌, ◌*◌, ◌-◌, Bool, not, ◌&&◌, ◌||◌, List, take, drop, leb, ltb}
use Rattle.fields.specs.Fields.{if}
use Rattle.fields.specs.Refusals.{out_of_range}
use Rattle.memories.specs.declared.VifUnit.{VifUnit}
use Rattle.memories.specs.declared.VifUnit.TheVariants.{Vif0, Vif1}
use Rattle.memories.specs.Units.{quadwords}
use Rattle.compare.specs.declared.Found.{Found}
use Rattle.compare.specs.declared.UnitFound.{UnitFound}
use Rattle.compare.specs.declared.Comparison.{Comparison}
use Rattle.compare.specs.CompareAnswer.{CompareAnswer, Compared, Refused}
use Rattle.compare.specs.Elements.{found, found_from}
use Rattle.compare.specs.Parts.{data_part, asks}
use Rattle.compare.specs.Boards.{Board, compare_of}

-- how many quadwords a range has
abbrev pub range_size : ℕ → ℕ → ℕ
range_size first last = last + 1 - first

-- their words in a data memory
abbrev pub within : ℕ → ℕ → List ℕ → List ℕ
within first last mem = take (4 * range_size first last) (drop (4 * first) mem)

-- ---- refusals

-- a unit's data memories are asked for, and they do not reach to the last quadword
unfoldable pub beyond : ℕ → VifUnit → ℕ → Bool
beyond parts u last = asks parts (data_part u) && leb (quadwords u) last

-- a range that is none, of no data memory, or not inside one that is asked for
unfoldable pub range_refused : ℕ → ℕ → ℕ → Bool
range_refused parts first last =
    ltb last first || not (asks parts (data_part Vif1) || asks parts (data_part Vif0)) || beyond parts Vif1 last || beyond parts Vif0 last

-- ---- the comparison

-- what is found in a unit's quadwords: the first that differs, last + 1 where none does, and how many do
unfoldable pub quadwords_within : ℕ → VifUnit → ℕ → ℕ → List ℕ → List ℕ → Found
quadwords_within parts u first last a b = if (asks parts (data_part u)) (found_from 4 first a b (range_size first last)) (found 0 0)

abbrev pub with_quadwords : Found → UnitFound → UnitFound
with_quadwords f whole = record { quadwords = f; instructions = whole.instructions }

-- a comparison with the quadwords of the range in the place of all
unfoldable pub comparison_within : ℕ → ℕ → ℕ → Board → Board → Comparison → Comparison
comparison_within parts first last a b whole =
    record {
      vif1 = with_quadwords (quadwords_within parts Vif1 first last a.vif1.mem b.vif1.mem) whole.vif1;
      vif0 = with_quadwords (quadwords_within parts Vif0 first last a.vif0.mem b.vif0.mem) whole.vif0;
      entries = whole.entries;
      used = whole.used;
    }

abbrev pub answer_within : ℕ → ℕ → ℕ → Board → Board → CompareAnswer → CompareAnswer
answer_within parts first last a b (Compared c) = Compared (comparison_within parts first last a b c)
answer_within parts first last a b (Refused n) = Refused n

-- the range is refused with the parts; the verdict is same_of, as without a range
unfoldable pub compare_within : ℕ → ℕ → ℕ → Board → Board → CompareAnswer
compare_within parts first last a b =
    if (range_refused parts first last) (Refused out_of_range) (answer_within parts first last a b (compare_of parts a b))

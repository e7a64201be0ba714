-- What inner functions make of their input and require of it; no promise of a public function cites it.
use Rattle.std.specs.Prelude.{ℕ, zero, suc, ◌+◌, ◌≤◌, List, length}
use Rattle.sheet.specs.Reading.{Reading, End, Found, Refused}
use Rattle.sheet.specs.Reader.{reading_at}
use Rattle.salvage.specs.declared.Sums.{Sums}
use Rattle.sheet.specs.Records.{longest}
use Rattle.sheet.specs.Whole.{sheet_bytes}
use Rattle.salvage.specs.Salvage.{Range, pieces_from, records_in, kept_bytes, ranges_from, dropped_ranges, numbers_of}

-- what is kept and what is dropped from a place on
abbrev pub kept_from : List ℕ → ℕ → List ℕ
kept_from sheet at = sheet_bytes (records_in (pieces_from sheet at))

abbrev pub dropped_from : List ℕ → ℕ → List Range
dropped_from sheet at = ranges_from at (pieces_from sheet at)

-- the end of a range that holds every place before this one; f goes on
abbrev pub on_place : (ℕ → ℕ) → ℕ → Reading → ℕ
on_place f at End = at
on_place f at (Found k n a next) = at
on_place f at (Refused n offset) = f (at + 1)

-- at most so many places on
unfoldable pub end_within : ℕ → List ℕ → ℕ → ℕ
end_within zero sheet at = at
end_within (suc n) sheet at = on_place (end_within n sheet) at (reading_at sheet at)

-- the first place from this one on where a record starts, or the sheet's end
unfoldable pub range_end : List ℕ → ℕ → ℕ
range_end sheet at = end_within (length sheet) sheet at

-- the bytes and ranges of a sheet
abbrev pub sums : ℕ → ℕ → Sums
sums bytes ranges = record { bytes = bytes; ranges = ranges }

abbrev pub sums_of : List ℕ → Sums
sums_of sheet = sums (length (kept_bytes sheet)) (length (dropped_ranges sheet))

-- a sheet that is not too long, and buffers with room for what is written
pub record Room (sheet output ranges : List ℕ) : Type 0 where
  pub short : length sheet ≤ longest
  pub bytes : length (kept_bytes sheet) ≤ length output
  pub numbers : length (numbers_of (dropped_ranges sheet)) ≤ length ranges

-- Salvaging a sheet: document 02's request 8. "The tool reads from offset 0: if a whole valid record starts here it is kept and passed over, otherwise one byte is
-- dropped and it goes on."
use Rattle.std.specs.Prelude.{ℕ, zero, suc, ◌+◌, ◌/◌, List, [], ◌∷◌, length, get_or, eqb, ltb}
use Rattle.fields.specs.Fields.{if}
use Rattle.fields.specs.Refusals.{sheet_long, kept_exceed, ranges_exceed}
use Rattle.sheet.specs.Reading.{Reading, End, Found, Refused as NoRecord}
use Rattle.sheet.specs.Records.{Record, record_of, longest, header_length, body_length, bytes_at}
use Rattle.sheet.specs.Reader.{reading_at}
use Rattle.sheet.specs.Whole.{record_bytes, sheet_bytes}
use Rattle.sheet.specs.Build.{stored}
use Rattle.salvage.specs.SalvageAnswer.{SalvageAnswer, Salvaged, Refused}

-- ---- the reading

-- what the reading takes of a sheet at a time: a record that is kept, or a byte that is dropped
pub data Piece : Type 0 where
  kept : Record → Piece
  dropped : ℕ → Piece

-- "if a whole valid record starts here it is kept and passed over, otherwise one byte is dropped and it goes on"; f goes on from the next place
abbrev pub take_piece : (ℕ → List Piece) → List ℕ → ℕ → Reading → List Piece
take_piece f sheet at End = []
take_piece f sheet at (Found k n a next) = kept (record_of k n a (bytes_at sheet (at + header_length) (body_length k n))) ∷ f next
take_piece f sheet at (NoRecord n offset) = dropped (get_or sheet at 0) ∷ f (at + 1)

-- at most so many pieces from a place on
unfoldable pub pieces_within : ℕ → List ℕ → ℕ → List Piece
pieces_within zero sheet at = []
pieces_within (suc n) sheet at = take_piece (pieces_within n sheet) sheet at (reading_at sheet at)

-- the pieces from a place on: a sheet has no more pieces than bytes
unfoldable pub pieces_from : List ℕ → ℕ → List Piece
pieces_from sheet at = pieces_within (length sheet) sheet at

-- "The tool reads from offset 0"
abbrev pub pieces_of : List ℕ → List Piece
pieces_of sheet = pieces_from sheet 0

-- ---- what is kept

-- the records among pieces
unfoldable pub records_in : List Piece → List Record
records_in [] = []
records_in (kept r ∷ ps) = r ∷ records_in ps
records_in (dropped b ∷ ps) = records_in ps

-- "It writes the kept records one after another"
abbrev pub kept_bytes : List ℕ → List ℕ
kept_bytes sheet = sheet_bytes (records_in (pieces_of sheet))

-- ---- what is dropped

-- "(offset, length)"
pub record Range : Type 0 where
  pub offset : ℕ
  pub size : ℕ

abbrev pub range : ℕ → ℕ → Range
range offset size = record { offset = offset; size = size }

-- "joined where they touch": a byte dropped before other ranges
unfoldable pub joined : ℕ → List Range → List Range
joined at [] = range at 1 ∷ []
joined at (r ∷ rs) = if (eqb (at + 1) r.offset) (range at (1 + r.size) ∷ rs) (range at 1 ∷ r ∷ rs)

-- "a list of the dropped ranges (offset, length), joined where they touch, in order": of pieces that start at a place
unfoldable pub ranges_from : ℕ → List Piece → List Range
ranges_from at [] = []
ranges_from at (kept r ∷ ps) = ranges_from (at + length (record_bytes r)) ps
ranges_from at (dropped b ∷ ps) = joined at (ranges_from (at + 1) ps)

abbrev pub dropped_ranges : List ℕ → List Range
dropped_ranges sheet = ranges_from 0 (pieces_of sheet)

-- the list's numbers
unfoldable pub numbers_of : List Range → List ℕ
numbers_of [] = []
numbers_of (r ∷ rs) = r.offset ∷ r.size ∷ numbers_of rs

-- ---- the tool

-- what the tool leaves: its answer, the output and the list
pub record Left : Type 0 where
  pub answer : SalvageAnswer
  pub output : List ℕ
  pub ranges : List ℕ

abbrev pub left : SalvageAnswer → List ℕ → List ℕ → Left
left a output ranges = record { answer = a; output = output; ranges = ranges }

-- "46 for a sheet above 131,072 bytes, then 55 exactly if the kept bytes exceed the output, then 56 exactly if the ranges exceed their list, which holds half its length in
-- numbers, rounded down; both buffers untouched." "It answers how many bytes and ranges it wrote." "Beyond what is written both buffers keep their contents."
unfoldable pub salvage_of : List ℕ → List ℕ → List ℕ → Left
salvage_of sheet output ranges =
    if (ltb longest (length sheet)) (left (Refused sheet_long) output ranges)
    (if (ltb (length output) (length (kept_bytes sheet))) (left (Refused kept_exceed) output ranges)
    (if (ltb (length ranges / 2) (length (dropped_ranges sheet))) (left (Refused ranges_exceed) output ranges)
    (left (Salvaged (length (kept_bytes sheet)) (length (dropped_ranges sheet))) (stored (kept_bytes sheet) output) (stored (numbers_of (dropped_ranges sheet)) ranges))))

-- the number of an answer: 0, or the refusal's
abbrev pub answer_number : SalvageAnswer → ℕ
answer_number (Salvaged bytes ranges) = 0
answer_number (Refused n) = n

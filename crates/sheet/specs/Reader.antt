-- Reading a sheet of the first edition: document 01's "Builder: 46 sheet too long, first; then records in order, each: 44 header cut, 40 mark, 41 kind, 42 count, 43 address, 44
-- body cut, 45 non-zero pad". "In the library's answer the record's offset comes with it (0 for 46, 47)."
use Rattle.std.specs.Prelude.{ℕ, zero, suc, ◌+◌, ◌*◌, Bool, not, ◌&&◌, List, [], ◌∷◌, length, get_or, eqb, leb, ltb}
use Rattle.fields.specs.Refusals.{mark_wrong, kind_wrong, count_wrong, address_wrong, record_cut, pad_wrong}
use Rattle.fields.specs.Fields.{if}
use Rattle.sheet.specs.declared.Kind.{Kind}
use Rattle.sheet.specs.declared.Kind.TheVariants.{Data, Code, Gs, Start}
use Rattle.sheet.specs.Reading.{Reading, End, Found, Refused}
use Rattle.sheet.specs.Records.{Record, record_of, header_length, count_fits, address_fits, body_length, bytes_at, pads_fit}

-- "mark 9Eh 51h"
unfoldable pub marked : List ℕ → ℕ → Bool
marked sheet at = eqb (get_or sheet at 0) 158 && eqb (get_or sheet (at + 1) 0) 81

-- the kind of a number; "41 kind" names those that are none
abbrev pub kind_listed : ℕ → Bool
kind_listed k = leb 1 k && leb k 4

unfoldable pub kind_of : ℕ → Kind
kind_of k = if (eqb k 1) Data (if (eqb k 2) Code (if (eqb k 3) Gs Start))

abbrev pub kind_at : List ℕ → ℕ → Kind
kind_at sheet at = kind_of (get_or sheet (at + 2) 0)

abbrev pub count_at : List ℕ → ℕ → ℕ
count_at sheet at = get_or sheet (at + 3) 0

-- "address (16 bits)"
abbrev pub address_at : List ℕ → ℕ → ℕ
address_at sheet at = get_or sheet (at + 4) 0 + 256 * get_or sheet (at + 5) 0

-- the place after the record
abbrev pub next_at : List ℕ → ℕ → ℕ
next_at sheet at = at + header_length + body_length (kind_at sheet at) (count_at sheet at)

-- "42 count, 43 address, 44 body cut, 45 non-zero pad": the refusal of a record by its row, 0 where there is none
unfoldable pub row_refusal : List ℕ → ℕ → ℕ
row_refusal sheet at =
    if (not (count_fits (kind_at sheet at) (count_at sheet at))) count_wrong
    (if (not (address_fits (kind_at sheet at) (address_at sheet at))) address_wrong
    (if (ltb (length sheet) (next_at sheet at)) record_cut
    (if (not (pads_fit (kind_at sheet at) sheet (at + header_length) (count_at sheet at))) pad_wrong
    0)))

-- "each: 44 header cut, 40 mark, 41 kind", and then by its row: the refusal of the record at a place, 0 where there is none
unfoldable pub record_refusal : List ℕ → ℕ → ℕ
record_refusal sheet at =
    if (ltb (length sheet) (at + header_length)) record_cut
    (if (not (marked sheet at)) mark_wrong
    (if (not (kind_listed (get_or sheet (at + 2) 0))) kind_wrong
    (row_refusal sheet at)))

-- the record at a place, with the place after it
abbrev pub found_at : List ℕ → ℕ → Reading
found_at sheet at = Found (kind_at sheet at) (count_at sheet at) (address_at sheet at) (next_at sheet at)

-- what stands at a place: the end of the sheet, a record with the place after it, or the refusal with the record's offset
unfoldable pub reading_at : List ℕ → ℕ → Reading
reading_at sheet at =
    if (leb (length sheet) at) End
    (if (eqb (record_refusal sheet at) 0) (found_at sheet at)
    (Refused (record_refusal sheet at) at))

-- a sheet is its records, or is refused with a number and an offset
pub data Contents : Type 0 where
  valid : List Record → Contents
  refused : ℕ → ℕ → Contents

-- a record before others
abbrev pub before : Record → Contents → Contents
before r (valid rs) = valid (r ∷ rs)
before r (refused n offset) = refused n offset

-- "records in order"; f reads on
abbrev pub on_reading : (ℕ → Contents) → List ℕ → ℕ → Reading → Contents
on_reading f sheet at End = valid []
on_reading f sheet at (Found k n a next) = before (record_of k n a (bytes_at sheet (at + header_length) (body_length k n))) (f next)
on_reading f sheet at (Refused n offset) = refused n offset

-- at most so many records from a place on
unfoldable pub records_from : ℕ → List ℕ → ℕ → Contents
records_from zero sheet at = valid []
records_from (suc n) sheet at = on_reading (records_from n sheet) sheet at (reading_at sheet at)

-- the records from a place on: a sheet has no more records than bytes
unfoldable pub contents_from : List ℕ → ℕ → Contents
contents_from sheet at = records_from (length sheet) sheet at

-- Worked examples, computed.
use mathlib.Core.Path.{◌≡◌, refl}
use mathlib.Core.List.{List, [], ◌∷◌}
use Prim.Native.Nat.{ℕ, ◌/◌}
use native.Mathlib.Omega.{arith}
use borrow.Author.Tests.{le-ltb}
use lib.ListN.{length}
use Rattle.fields.specs.Fields.{if}
use Rattle.sheet.specs.Reader.{marked, kind_of, row_refusal, record_refusal, reading_at}
use Rattle.sheet.specs.Whole.{sheet_bytes}
use Rattle.salvage.specs.SalvageAnswer.{Salvaged, Refused}
use Rattle.salvage.specs.Salvage.{pieces_within, pieces_from, records_in, joined, ranges_from, numbers_of, left, salvage_of}

-- a start at 5
abbrev start_five : List ℕ
start_five = 158 ∷ 81 ∷ 4 ∷ 0 ∷ 5 ∷ 0 ∷ []

-- a data record of two quadwords that is cut; in its body stands the start
abbrev broken_data : List ℕ
broken_data = 158 ∷ 81 ∷ 1 ∷ 2 ∷ 0 ∷ 0 ∷ 7 ∷ 158 ∷ 81 ∷ 4 ∷ 0 ∷ 5 ∷ 0 ∷ 7 ∷ []

-- "A whole valid record that the reading comes to inside a broken one's body is kept", and the seven bytes before it are one range
pub record_inside :
    salvage_of broken_data (9 ∷ 9 ∷ 9 ∷ 9 ∷ 9 ∷ 9 ∷ 9 ∷ []) (8 ∷ 8 ∷ 8 ∷ 8 ∷ 8 ∷ [])
    ≡ left (Salvaged 6 2) (158 ∷ 81 ∷ 4 ∷ 0 ∷ 5 ∷ 0 ∷ 9 ∷ []) (0 ∷ 7 ∷ 13 ∷ 1 ∷ 8 ∷ [])
unfolding salvage_of pieces_from pieces_within reading_at record_refusal row_refusal marked kind_of records_in sheet_bytes ranges_from joined numbers_of if
record_inside = refl

-- its two ranges need four numbers
pub list_short :
    salvage_of broken_data (9 ∷ 9 ∷ 9 ∷ 9 ∷ 9 ∷ 9 ∷ []) (8 ∷ 8 ∷ 8 ∷ [])
    ≡ left (Refused 56) (9 ∷ 9 ∷ 9 ∷ 9 ∷ 9 ∷ 9 ∷ []) (8 ∷ 8 ∷ 8 ∷ [])
unfolding salvage_of pieces_from pieces_within reading_at record_refusal row_refusal marked kind_of records_in sheet_bytes ranges_from joined numbers_of if
list_short = refl

-- its record needs six bytes, and that is said first
pub output_short_lem :
    salvage_of broken_data (9 ∷ 9 ∷ 9 ∷ 9 ∷ 9 ∷ []) (8 ∷ 8 ∷ 8 ∷ [])
    ≡ left (Refused 55) (9 ∷ 9 ∷ 9 ∷ 9 ∷ 9 ∷ []) (8 ∷ 8 ∷ 8 ∷ [])
unfolding salvage_of pieces_from pieces_within reading_at record_refusal row_refusal marked kind_of records_in sheet_bytes ranges_from joined numbers_of if
output_short_lem = refl

-- a valid sheet fills its output and needs no list
pub start_back :
    salvage_of start_five (9 ∷ 9 ∷ 9 ∷ 9 ∷ 9 ∷ 9 ∷ []) []
    ≡ left (Salvaged 6 0) start_five []
unfolding salvage_of pieces_from pieces_within reading_at record_refusal row_refusal marked kind_of records_in sheet_bytes ranges_from joined numbers_of if
start_back = refl

-- an empty sheet gives 0 and 0
pub empty_sheet : (output ranges : List ℕ) → salvage_of [] output ranges ≡ left (Salvaged 0 0) output ranges
unfolding salvage_of pieces_from pieces_within records_in sheet_bytes ranges_from numbers_of if
empty_sheet output ranges = rw (le-ltb (length output) 0 (omega arith), le-ltb (length ranges / 2) 0 (omega arith))

-- request 12: kinds 0 and 5 are damage; the six bytes of a group's header are dropped, its record is kept once
pub group_dropped :
    salvage_of (158 ∷ 81 ∷ 5 ∷ 200 ∷ 1 ∷ 0 ∷ start_five) (9 ∷ 9 ∷ 9 ∷ 9 ∷ 9 ∷ 9 ∷ []) (8 ∷ 8 ∷ [])
    ≡ left (Salvaged 6 1) start_five (0 ∷ 6 ∷ [])
unfolding salvage_of pieces_from pieces_within reading_at record_refusal row_refusal marked kind_of records_in sheet_bytes ranges_from joined numbers_of if
group_dropped = refl

pub edition_dropped :
    salvage_of (158 ∷ 81 ∷ 0 ∷ 2 ∷ 0 ∷ 0 ∷ start_five) (9 ∷ 9 ∷ 9 ∷ 9 ∷ 9 ∷ 9 ∷ []) (8 ∷ 8 ∷ [])
    ≡ left (Salvaged 6 1) start_five (0 ∷ 6 ∷ [])
unfolding salvage_of pieces_from pieces_within reading_at record_refusal row_refusal marked kind_of records_in sheet_bytes ranges_from joined numbers_of if
edition_dropped = refl

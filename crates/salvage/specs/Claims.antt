-- What request 8 claims of a salvage, in the words of its sentences; the theorems are in proofs/.
use Rattle.std.specs.Prelude.{ℕ, ◌+◌, ◌*◌, ◌-◌, ◌<◌, ◌≤◌, ◌≡◌, List, [], ◌∷◌, ◌++◌, length, take, drop}
use Rattle.sheet.specs.declared.Kind.{Kind}
use Rattle.sheet.specs.Reading.{Found, Refused as NoRecord}
use Rattle.sheet.specs.Records.{Record, bytes_at}
use Rattle.sheet.specs.Reader.{reading_at}
use Rattle.sheet.specs.Whole.{record_bytes}
use Rattle.salvage.specs.Salvage.{Piece, kept, dropped, pieces_of, kept_bytes, Range, dropped_ranges, numbers_of, Left}

-- ---- "Kept and dropped bytes together are the input."

abbrev pub piece_bytes : Piece → List ℕ
piece_bytes (kept r) = record_bytes r
piece_bytes (dropped b) = b ∷ []

unfoldable pub bytes_of : List Piece → List ℕ
bytes_of [] = []
bytes_of (p ∷ ps) = piece_bytes p ++ bytes_of ps

-- the bytes from a place on that lie in none of the ranges
unfoldable pub outside : List ℕ → ℕ → List Range → List ℕ
outside sheet at [] = drop at sheet
outside sheet at (r ∷ rs) = bytes_at sheet at (r.offset - at) ++ outside sheet (r.offset + r.size) rs

-- ---- "A whole valid record that the reading comes to inside a broken one's body is kept."

-- the places that the reading comes to
pub data ComesTo (sheet : List ℕ) : ℕ → Type 0 where
  start : ComesTo sheet 0
  after_record : {at n a next : ℕ} {k : Kind} → ComesTo sheet at → reading_at sheet at ≡ Found k n a next → ComesTo sheet next
  after_byte : {at n offset : ℕ} → ComesTo sheet at → reading_at sheet at ≡ NoRecord n offset → ComesTo sheet (at + 1)

-- a record is kept that starts at a place
pub record KeptAt (sheet : List ℕ) (at : ℕ) (r : Record) : Type 0 where
  pub earlier : List Piece
  pub later : List Piece
  pub pieces : pieces_of sheet ≡ earlier ++ kept r ∷ later
  pub place : length (bytes_of earlier) ≡ at

-- ---- "a list of the dropped ranges (offset, length), joined where they touch, in order"

-- ranges from a place on: none is empty, each ends at the sheet's end or at a record, and the next one starts no earlier than after that record
pub data Apart (sheet : List ℕ) : ℕ → List Range → Type 0 where
  none : {from : ℕ} → Apart sheet from []
  last : {from : ℕ} {r : Range} → from ≤ r.offset → 0 < r.size → r.offset + r.size ≡ length sheet → Apart sheet from (r ∷ [])
  more : {from n a next : ℕ} {k : Kind} {r : Range} {rs : List Range} → from ≤ r.offset → 0 < r.size → reading_at sheet (r.offset + r.size) ≡ Found k n a next
      → Apart sheet next rs
      → Apart sheet from (r ∷ rs)

-- ---- "It answers how many bytes and ranges it wrote." "Beyond what is written both buffers keep their contents."

-- both buffers after so many bytes and ranges were written
pub record Wrote (sheet output ranges : List ℕ) (bytes count : ℕ) (x : Left) : Type 0 where
  pub kept : take bytes x.output ≡ kept_bytes sheet
  pub dropped : take (2 * count) x.ranges ≡ numbers_of (dropped_ranges sheet)
  pub output_beyond : drop bytes x.output ≡ drop bytes output
  pub ranges_beyond : drop (2 * count) x.ranges ≡ drop (2 * count) ranges

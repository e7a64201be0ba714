-- A vector's write: document 01's "Code 0 data, 1 ROW of the field, 2 COL of the row, 3 field unchanged" and the modes.
use Rattle.std.specs.Prelude.{ℕ, zero, suc, ◌+◌, ◌*◌, ◌%◌, ◌^◌, ◌&&◌, ◌||◌, List, [], ◌∷◌, ◌==◌, slice_index, slice_set}
use Rattle.fields.specs.Fields.{if}
use Rattle.unpack_rules.specs.declared.Registers.{Registers}
use Rattle.unpack_rules.specs.Position.{fills, vectors_before, position_of}
use Rattle.unpack_rules.specs.Mask.{row_of_cycle, code_row}

-- "Sums are modulo 2^32."
unfoldable pub added : ℕ → ℕ → ℕ
added x y = (x + y) % 2 ^ 32

-- Document 02, request 2: "in MODE 2 a field's ROW is replaced only where that field's mask code is 0". It supersedes document 01's "MODE 2 replaces ROW of
-- each of the four fields by data + ROW", from which the new value, data + ROW, stays.
unfoldable pub row_of : ℕ → ℕ → ℕ → ℕ → ℕ
row_of code mode x row = if (code == 0 && mode == 2) (added x row) row

-- "MODE 1: code 0 gives data + ROW of the field. MODE 2 ..., and a field of code 0 gets the new ROW", which is data + ROW too
unfoldable pub data_of : ℕ → ℕ → ℕ → ℕ
data_of mode x row = if (mode == 1 || mode == 2) (added x row) x

-- "Code 0 data, 1 ROW of the field, 2 COL of the row, 3 field unchanged"; "codes 1 and 2 use ROW and COL as before this vector"
unfoldable pub field_of : ℕ → ℕ → ℕ → ℕ → ℕ → ℕ → ℕ
field_of code mode x row col old =
    if (code == 0) (data_of mode x row) (if (code == 1) row (if (code == 2) col old))

-- ROW after a write with the codes of its four fields
unfoldable pub rows_after : List ℕ → ℕ → List ℕ → List ℕ → List ℕ
rows_after codes mode fields row = next 0 ∷ next 1 ∷ next 2 ∷ next 3 ∷ []
  where
    next : ℕ → ℕ
    next f = row_of (slice_index codes f) mode (slice_index fields f) (slice_index row f)

-- the memory with a field written
unfoldable pub put_field : List ℕ → ℕ → ℕ → ℕ → ℕ → ℕ → ℕ → List ℕ
put_field mem at code mode x row col = slice_set mem at (field_of code mode x row col (slice_index mem at))

-- the memory with a quadword written, field by field
unfoldable pub written_at : List ℕ → ℕ → List ℕ → List ℕ → ℕ → List ℕ → ℕ → List ℕ
written_at mem quad fields row col codes mode =
    put 3 (4 * quad + 3) (put 2 (4 * quad + 2) (put 1 (4 * quad + 1) (put 0 (4 * quad) mem)))
  where
    put : ℕ → ℕ → List ℕ → List ℕ
    put f at m = put_field m at (slice_index codes f) mode (slice_index fields f) (slice_index row f) col

-- ROW and the data memory, which writes change
pub record Written : Type 0 where
  pub row : List ℕ
  pub mem : List ℕ

abbrev pub written : List ℕ → List ℕ → Written
written row mem = record { row = row; mem = mem }

-- write i of an UNPACK: its quadword, its mask row and "COL of the row" by i, in a memory of `size` quadwords
unfoldable pub write_vector : ℕ → ℕ → Registers → ℕ → List ℕ → Written → Written
write_vector size a r i fields w =
    written (rows_after (code_row r.mask (row_of_cycle r.wl i)) r.mode fields w.row)
    (written_at w.mem (position_of size a r.cl r.wl i) fields w.row (slice_index r.col (row_of_cycle r.wl i))
    (code_row r.mask (row_of_cycle r.wl i))
    r.mode)

-- request 3: "A filling field of mask code 0 gets that field ..., extended, without MODE, ...; ROW doesn't move. Codes 1 to 3 act as before."
unfoldable pub registers_at : Registers → ℕ → Registers
registers_at r i = record { cl = r.cl; wl = r.wl; mode = if (fills r.cl r.wl i) 0 r.mode; mask = r.mask; col = r.col }

-- the last of the first n vectors, "or 0 if there has been none"
abbrev pub last_vector : (ℕ → List ℕ) → ℕ → List ℕ
last_vector vec zero = 0 ∷ 0 ∷ 0 ∷ 0 ∷ []
last_vector vec (suc j) = vec j

-- write i takes its vector, a fill "the last payload vector of this UNPACK": each the last vector that the writes up to it take
unfoldable pub write_at : ℕ → ℕ → Registers → (ℕ → List ℕ) → ℕ → Written → Written
write_at size a r vec i w = write_vector size a (registers_at r i) i (last_vector vec (vectors_before r.cl r.wl (suc i))) w

-- n writes from number i on, in order; vec gives the payload's vectors by their numbers
unfoldable pub writes_from : ℕ → ℕ → Registers → (ℕ → List ℕ) → ℕ → ℕ → Written → Written
writes_from size a r vec zero i w = w
writes_from size a r vec (suc n) i w = writes_from size a r vec n (suc i) (write_at size a r vec i w)

-- A payload word of a code that waits.
use Rattle.std.specs.Prelude.{ℕ, ◌+◌, ◌*◌, ◌-◌, ◌/◌, ◌%◌, Bool, false, List, [], ◌∷◌, set, eqb}
use Rattle.std.proofs.lemmas.List.Edits.{sets}
use Rattle.fields.specs.Fields.{if}
use Rattle.memories.specs.declared.VifUnit.{VifUnit}
use Rattle.memories.specs.Units.{quadwords}
use Rattle.unpack_rules.specs.declared.Format.{Format}
use Rattle.unpack_rules.specs.declared.Unpacking.{Unpacking}
use Rattle.unpack_rules.specs.declared.Registers.{Registers}
use Rattle.unpack_rules.specs.Write.{Written, written}
use Rattle.unpack_rules.specs.Step.{holds, unpack_word}
use Rattle.vif_codes.specs.declared.Waiting.{Waiting}
use Rattle.vif_codes.specs.declared.Waiting.TheVariants.{Nothing, RowDue, ColDue, MpgDue, UnpackDue}
use Rattle.vif_codes.specs.declared.Vif.{Vif}
use Rattle.vif_codes.specs.Setters.{with_mask, with_row, with_col, with_waiting}

-- the last unit of the payload completes the code, with its interrupt bit
unfoldable pub completes : ℕ → Bool → Bool
completes due i = if (eqb due 1) i false

-- with units left it waits on
unfoldable pub or_nothing : ℕ → Waiting → Waiting
or_nothing due w = if (eqb due 1) Nothing w

-- "20 STMASK, 30 STROW, 31 STCOL take 1, 4, 4 words; word j is stored as ROW j or COL j when it comes": with `due` words left, it is word 4 - due
abbrev pub row_word : Vif → ℕ → Bool → ℕ → Vif
row_word v due i word = with_waiting (with_row v (set v.row (4 - due) word)) (or_nothing due (RowDue (due - 1) i))

abbrev pub col_word : Vif → ℕ → Bool → ℕ → Vif
col_word v due i word = with_waiting (with_col v (set v.col (4 - due) word)) (or_nothing due (ColDue (due - 1) i))

-- the one word of STMASK
abbrev pub mask_word : Vif → ℕ → Vif
mask_word v word = with_waiting (with_mask v word) Nothing

-- the four bytes of a word, lowest first
abbrev pub bytes_of : ℕ → List ℕ
bytes_of word = word % 256 ∷ word / 256 % 256 ∷ word / 65536 % 256 ∷ word / 16777216 ∷ []

-- "MPG: NUM instructions of two words (0 means 256), instruction j to (IMM+j) modulo 2,048. A word is stored as it comes": where word k of the payload goes, in
-- bytes, once over the instructions that the memory has
unfoldable pub word_place : ℕ → ℕ → ℕ → ℕ
word_place size a k = 8 * ((a + k / 2) % size) + 4 * (k % 2)

unfoldable pub mpg_stored : ℕ → ℕ → ℕ → ℕ → ℕ → List ℕ → List ℕ
mpg_stored size a n due word code = sets code (word_place size a (n + n - due)) (bytes_of word)

abbrev pub mpg_word : Vif → ℕ → ℕ → ℕ → Bool → Vif
mpg_word v a n due i = with_waiting v (or_nothing due (MpgDue a n (due - 1) i))

-- the registers that UNPACK reads
abbrev pub write_registers : Vif → Registers
write_registers v = record { cl = v.cl; wl = v.wl; mode = v.mode; mask = v.mask; col = v.col }

-- ROW and data memory after a payload word
abbrev pub unpack_written : VifUnit → Vif → Format → Unpacking → ℕ → List ℕ → Written
unpack_written which v f u word mem = unpack_word (quadwords which) f u (write_registers v) word (written v.row mem)

abbrev pub unpack_unit : Vif → Format → Unpacking → ℕ → List ℕ → Vif
unpack_unit v f u word row = with_waiting (with_row v row) (or_nothing u.due (UnpackDue f (holds u word)))

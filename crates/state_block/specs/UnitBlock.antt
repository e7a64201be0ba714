-- The unit block: a VIF unit as 32 words.
use Rattle.std.specs.Prelude.{ℕ, Bool, true, false, ◌&&◌, List, [], ◌∷◌, ◌++◌, length, get_or, eqb, None, Option, Some}
use Rattle.fields.specs.Fields.{if}
use Rattle.unpack_rules.specs.declared.Format.{Format}
use Rattle.unpack_rules.specs.declared.Format.TheVariants.{S32}
use Rattle.unpack_rules.specs.Formats.{format_number, format_named}
use Rattle.unpack_rules.specs.declared.Unpacking.{Unpacking}
use Rattle.vif_codes.specs.declared.Waiting.{Waiting}
use Rattle.vif_codes.specs.declared.Waiting.TheVariants.{Nothing, MaskDue, RowDue, ColDue, MpgDue, DirectDue, DirecthlDue, UnpackDue}
use Rattle.vif_codes.specs.declared.Vif.{Vif}
use Rattle.vif_codes.specs.Setters.{with_waiting}
use Rattle.chain_state.specs.Start.{reset_unit}
use Rattle.state_block.specs.Read.{ReadFormat}
use Rattle.state_block.specs.Read.{ReadWaiting}
use Rattle.state_block.specs.Read.{ReadUnit}
use Rattle.state_block.specs.Sizes.{unit_size}
use Rattle.state_block.specs.Words.{bit_of, is_bit, bit_at, numbered}

-- ---- the format of an UNPACK

-- what word 26 says, bits 0 to 3 of CMD, and whether it is a format's
abbrev pub a_format : Format → ReadFormat
a_format f = record { known = true; format = f }

abbrev pub no_format : ReadFormat
no_format = record { known = false; format = S32 }

abbrev pub read_format : Option Format → ReadFormat
read_format (Some f) = a_format f
read_format None = no_format

unfoldable pub format_numbered : ℕ → ReadFormat
format_numbered n = read_format (format_named n)

-- ---- the code that waits

-- word 21
abbrev pub waiting_number : Waiting → ℕ
waiting_number Nothing = 0
waiting_number (MaskDue i) = 1
waiting_number (RowDue due i) = 2
waiting_number (ColDue due i) = 3
waiting_number (MpgDue address count due i) = 4
waiting_number (DirectDue due i) = 5
waiting_number (DirecthlDue due i) = 6
waiting_number (UnpackDue f u) = 7

-- words 22 to 31 of a code that has nothing but its payload due
abbrev pub due_words : Bool → ℕ → List ℕ
due_words i due = bit_of i ∷ due ∷ 0 ∷ 0 ∷ 0 ∷ 0 ∷ 0 ∷ 0 ∷ 0 ∷ 0 ∷ []

-- of MPG, which has an address and a count
abbrev pub mpg_words : ℕ → ℕ → ℕ → Bool → List ℕ
mpg_words address count due i = bit_of i ∷ due ∷ address ∷ count ∷ 0 ∷ 0 ∷ 0 ∷ 0 ∷ 0 ∷ 0 ∷ []

-- of UNPACK
abbrev pub unpack_words : Format → Unpacking → List ℕ
unpack_words f u =
    bit_of u.interrupt
    ∷ u.due
    ∷ u.address
    ∷ u.count
    ∷ format_number f
    ∷ bit_of u.usn
    ∷ bit_of u.masked
    ∷ u.first
    ∷ u.second
    ∷ u.third
    ∷ []

-- words 22 to 31; those that mean nothing for the code that waits are zero
abbrev pub numbers_of : Waiting → List ℕ
numbers_of Nothing = 0 ∷ 0 ∷ 0 ∷ 0 ∷ 0 ∷ 0 ∷ 0 ∷ 0 ∷ 0 ∷ 0 ∷ []
numbers_of (MaskDue i) = due_words i 1
numbers_of (RowDue due i) = due_words i due
numbers_of (ColDue due i) = due_words i due
numbers_of (MpgDue address count due i) = mpg_words address count due i
numbers_of (DirectDue due i) = due_words i due
numbers_of (DirecthlDue due i) = due_words i due
numbers_of (UnpackDue f u) = unpack_words f u

-- words 21 to 31
abbrev pub waiting_words : Waiting → List ℕ
waiting_words w = waiting_number w ∷ numbers_of w

abbrev pub read_waiting : Bool → Waiting → ReadWaiting
read_waiting known waiting = record { known = known; waiting = waiting }

abbrev pub unpacking_in_block : List ℕ → Unpacking
unpacking_in_block b =
    record {
      address = get_or b 24 0;
      count = get_or b 25 0;
      due = get_or b 23 0;
      usn = bit_at b 27;
      masked = bit_at b 28;
      interrupt = bit_at b 22;
      first = get_or b 29 0;
      second = get_or b 30 0;
      third = get_or b 31 0;
    }

-- a waiting UNPACK of a format that was read
abbrev pub unpack_with : ReadFormat → List ℕ → ReadWaiting
unpack_with f b = read_waiting (is_bit b 22 && (is_bit b 27 && (is_bit b 28 && f.known))) (UnpackDue f.format (unpacking_in_block b))

-- the codes that can wait, each with the numbers of words 22 to 31 and whether these exist: "a bit word ... above 1 where it means something, a waiting STMASK
-- whose word 23 is not 1" does not. Words 22 to 31 are ignored where none waits, 26 to 28 but for UNPACK
unfoldable pub waitings : List ℕ → List ReadWaiting
waitings b =
    read_waiting true Nothing
    ∷ read_waiting (is_bit b 22 && eqb (get_or b 23 0) 1) (MaskDue (bit_at b 22))
    ∷ read_waiting (is_bit b 22) (RowDue (get_or b 23 0) (bit_at b 22))
    ∷ read_waiting (is_bit b 22) (ColDue (get_or b 23 0) (bit_at b 22))
    ∷ read_waiting (is_bit b 22) (MpgDue (get_or b 24 0) (get_or b 25 0) (get_or b 23 0) (bit_at b 22))
    ∷ read_waiting (is_bit b 22) (DirectDue (get_or b 23 0) (bit_at b 22))
    ∷ read_waiting (is_bit b 22) (DirecthlDue (get_or b 23 0) (bit_at b 22))
    ∷ unpack_with (format_numbered (get_or b 26 0)) b
    ∷ []

-- the code that waits, by words 21 to 31, if they are one's
unfoldable pub waiting_in_block : List ℕ → ReadWaiting
waiting_in_block b = numbered (λ (r : ReadWaiting). waiting_number r.waiting) (get_or b 21 0) (waitings b) (read_waiting false Nothing)

-- ---- the unit

-- words 0 to 20
abbrev pub register_words : Vif → List ℕ
register_words v =
    v.cl
    ∷ v.wl
    ∷ v.ofst
    ∷ v.base
    ∷ v.tops
    ∷ v.top
    ∷ v.itops
    ∷ v.itop
    ∷ bit_of v.dbf
    ∷ v.mode
    ∷ bit_of v.mskpath3
    ∷ v.mark
    ∷ v.mask
    ∷ get_or v.row 0 0
    ∷ get_or v.row 1 0
    ∷ get_or v.row 2 0
    ∷ get_or v.row 3 0
    ∷ get_or v.col 0 0
    ∷ get_or v.col 1 0
    ∷ get_or v.col 2 0
    ∷ get_or v.col 3 0
    ∷ []

-- the words of a unit
unfoldable pub unit_block : Vif → List ℕ
unit_block v = register_words v ++ waiting_words v.waiting

-- the unit of a block and of the code that waits
abbrev pub held_unit : List ℕ → Waiting → Vif
held_unit b w =
    record {
      cl = get_or b 0 0;
      wl = get_or b 1 0;
      ofst = get_or b 2 0;
      base = get_or b 3 0;
      tops = get_or b 4 0;
      top = get_or b 5 0;
      itops = get_or b 6 0;
      itop = get_or b 7 0;
      dbf = bit_at b 8;
      mode = get_or b 9 0;
      mskpath3 = bit_at b 10;
      mark = get_or b 11 0;
      mask = get_or b 12 0;
      row = get_or b 13 0 ∷ get_or b 14 0 ∷ get_or b 15 0 ∷ get_or b 16 0 ∷ [];
      col = get_or b 17 0 ∷ get_or b 18 0 ∷ get_or b 19 0 ∷ get_or b 20 0 ∷ [];
      waiting = w;
    }

-- stands for the unit of words that are no unit's: out of range, since an STROW that waits has words due
abbrev pub no_unit : Vif
no_unit = with_waiting reset_unit (RowDue 0 false)

abbrev pub read_unit : Bool → Vif → ReadUnit
read_unit known unit = record { known = known; unit = unit }

-- the unit of a block whose code that waits was read; every register word but DBF's and MSKPATH3's is in a block always
unfoldable pub unit_with : ReadWaiting → List ℕ → ReadUnit
unit_with w b =
    if (is_bit b 8 && (is_bit b 10 && w.known)) (read_unit true (held_unit b w.waiting))
    (read_unit false no_unit)

-- the unit of a block, if it is a unit's
unfoldable pub unit_in_block : List ℕ → ReadUnit
unit_in_block b = if (eqb (length b) unit_size) (unit_with (waiting_in_block b) b) (read_unit false no_unit)

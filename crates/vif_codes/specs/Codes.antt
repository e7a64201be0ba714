-- VIF codes: document 01's "Bits 0-15 IMM, 16-23 NUM, 24-30 CMD, 31 interrupt. Each word is decoded into one case of a closed list of codes, each case
-- with its own numbers."
use Rattle.unpack_rules.specs.declared.Format.{Format}
use Rattle.std.specs.Prelude.{ℕ, Bool, true, not, ◌||◌, eqb, leb, None, Option, Some}
use Rattle.fields.specs.Fields.{if, bits}
use Rattle.fields.specs.Refusals.{cmd_unlisted, format_missing}
use Rattle.memories.specs.declared.VifUnit.{VifUnit}
use Rattle.memories.specs.declared.VifUnit.TheVariants.{Vif0, Vif1}
use Rattle.unpack_rules.specs.Formats.{format_named}
use Rattle.vif_codes.specs.declared.Code.TheVariants.{Nop, Stcycl, Offset, Base, Itop, Stmod, Mskpath3, Mark, Flushe, Flush, Flusha, Mscal, Mscalf, Mscnt, Stmask, Strow, Stcol, Mpg, Direct, Directhl, Unpack}
use Rattle.vif_codes.specs.declared.UnpackCode.{UnpackCode}
use Rattle.vif_codes.specs.Decoded.{Decoded, Known, Unknown}

abbrev pub imm_of : ℕ → ℕ
imm_of word = bits word 0 15

abbrev pub num_of : ℕ → ℕ
num_of word = bits word 16 23

abbrev pub cmd_of : ℕ → ℕ
cmd_of word = bits word 24 30

abbrev pub interrupt_of : ℕ → Bool
interrupt_of word = eqb (bits word 31 31) 1

-- "50 DIRECT, 51 DIRECTHL: IMM quadwords to path 2 (0 means 65,536)."
unfoldable pub direct_quadwords : ℕ → ℕ
direct_quadwords imm = if (eqb imm 0) 65536 imm

-- MPG's address: bits 0-10 of IMM, which give the same places as IMM
abbrev pub mpg_addresses : ℕ
mpg_addresses = 2048

abbrev pub mpg_address_most : ℕ
mpg_address_most = 2047

-- the codes below 60h
unfoldable pub plain_code : ℕ → ℕ → ℕ → Decoded
plain_code cmd num imm =
    if (eqb cmd 0x00) (Known Nop)
    (if (eqb cmd 0x01) (Known (Stcycl (bits imm 0 7) (bits imm 8 15)))
    (if (eqb cmd 0x02) (Known (Offset (bits imm 0 9)))
    (if (eqb cmd 0x03) (Known (Base (bits imm 0 9)))
    (if (eqb cmd 0x04) (Known (Itop (bits imm 0 9)))
    (if (eqb cmd 0x05) (Known (Stmod (bits imm 0 1)))
    (if (eqb cmd 0x06) (Known (Mskpath3 (eqb (bits imm 15 15) 1)))
    (if (eqb cmd 0x07) (Known (Mark imm))
    (if (eqb cmd 0x10) (Known Flushe)
    (if (eqb cmd 0x11) (Known Flush)
    (if (eqb cmd 0x13) (Known Flusha)
    (if (eqb cmd 0x14) (Known (Mscal imm))
    (if (eqb cmd 0x15) (Known (Mscalf imm))
    (if (eqb cmd 0x17) (Known Mscnt)
    (if (eqb cmd 0x20) (Known Stmask)
    (if (eqb cmd 0x30) (Known Strow)
    (if (eqb cmd 0x31) (Known Stcol)
    (if (eqb cmd 0x4A) (Known (Mpg (bits imm 0 10) num))
    (if (eqb cmd 0x50) (Known (Direct (direct_quadwords imm)))
    (if (eqb cmd 0x51) (Known (Directhl (direct_quadwords imm)))
    (Unknown cmd_unlisted))))))))))))))))))))

-- "21 vl 3 with vn below 3"
abbrev pub unpack_code : Option Format → UnpackCode → Decoded
unpack_code (Some f) u = Known (Unpack f u)
unpack_code None u = Unknown format_missing

-- "bit 4 M; IMM bits 0-9 address A, bit 14 USN, bit 15 adds TOPS, as held at the code, to A"
unfoldable pub unpack_numbers : ℕ → ℕ → ℕ → UnpackCode
unpack_numbers cmd num imm =
    record {
      address = bits imm 0 9;
      num = num;
      usn = eqb (bits imm 14 14) 1;
      masked = eqb (bits cmd 4 4) 1;
      tops = eqb (bits imm 15 15) 1;
    }

-- request 10, of VIF0: "It has no codes 02, 03, 06, 11, 13, 15, 50, 51"
unfoldable pub missing_code : ℕ → Bool
missing_code cmd =
    eqb cmd 0x02
    || (eqb cmd 0x03
    || (eqb cmd 0x06
    || (eqb cmd 0x11
    || (eqb cmd 0x13
    || (eqb cmd 0x15
    || (eqb cmd 0x50
    || eqb cmd 0x51))))))

-- whether a code below 60h is none of those that a unit lacks
abbrev pub code_listed : VifUnit → ℕ → Bool
code_listed Vif0 cmd = not (missing_code cmd)
code_listed Vif1 cmd = true

-- "60-7F UNPACK"; "CMD bits 0-1 vl, bits 2-3 vn", the number of the format; "20 CMD not listed", request 10: "20 for the codes named"
unfoldable pub code_of : VifUnit → ℕ → ℕ → ℕ → Decoded
code_of which cmd num imm =
    if (leb 0x60 cmd) (unpack_code (format_named (bits cmd 0 3)) (unpack_numbers cmd num imm))
    (if (code_listed which cmd) (plain_code cmd num imm)
    (Unknown cmd_unlisted))

unfoldable pub decode_of : VifUnit → ℕ → Decoded
decode_of which word = code_of which (cmd_of word) (num_of word) (imm_of word)

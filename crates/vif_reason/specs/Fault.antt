-- Request 6, of a VIF unit: "the shown number is the one found there and does break the rule".
use Rattle.std.specs.Prelude.{ℕ, ◌+◌, ◌*◌, ◌%◌, ◌^◌, ◌<◌, ◌≤◌, Bool, true, false, ◌&&◌, ◌||◌, List, ◌≡◌, eqb, leb}
use Rattle.fields.specs.Fields.{bits, quadword}
use Rattle.fields.specs.Refusals.{cmd_unlisted, format_missing, cycle_wrong, mode_wrong, direct_unaligned, mpg_unaligned, tops_missing, log_full}
use Rattle.gif.specs.declared.Path.{Path}
use Rattle.memories.specs.declared.VifUnit.{VifUnit}
use Rattle.memories.specs.declared.VifUnit.TheVariants.{Vif0}
use Rattle.vif_codes.specs.declared.Incoming.{Incoming}
use Rattle.vif_codes.specs.declared.Incoming.TheVariants.{Word0}
use Rattle.vif_codes.specs.declared.Waiting.{Waiting}
use Rattle.vif_codes.specs.declared.Waiting.TheVariants.{Nothing, MaskDue, RowDue, ColDue, MpgDue, DirectDue, DirecthlDue, UnpackDue}
use Rattle.vif_codes.specs.declared.Vif.{Vif}
use Rattle.vif_codes.specs.Codes.{cmd_of, code_listed}
use Rattle.vif_codes.specs.Words.{word_in}
use Rattle.gif_reason.specs.declared.Numbers.{Numbers}
use Rattle.gif_reason.specs.Reason.{numbers, free_entries}
use Rattle.gif_reason.specs.Fault.{QuadwordFault}
use Rattle.vif_reason.specs.Reason.{word_number, vl_of, vn_of}

-- the codes that document 01 lists: "00 NOP. 01 STCYCL ... 02 OFFSET ... 03 BASE, 04 ITOP ... 05 STMOD ... 06 MSKPATH3 ... 07 MARK ... 10, 11, 13 flushes", "14
-- MSCAL, 15 MSCALF, 17 MSCNT", "20 STMASK, 30 STROW, 31 STCOL", "4A MPG", "50 DIRECT, 51 DIRECTHL", "60-7F UNPACK"
unfoldable pub listed : ℕ → Bool
listed cmd =
    eqb cmd 0x00
    || (eqb cmd 0x01
    || (eqb cmd 0x02
    || (eqb cmd 0x03
    || (eqb cmd 0x04
    || (eqb cmd 0x05
    || (eqb cmd 0x06
    || (eqb cmd 0x07
    || (eqb cmd 0x10
    || (eqb cmd 0x11
    || (eqb cmd 0x13
    || (eqb cmd 0x14
    || (eqb cmd 0x15
    || (eqb cmd 0x17
    || (eqb cmd 0x20
    || (eqb cmd 0x30
    || (eqb cmd 0x31
    || (eqb cmd 0x4A
    || (eqb cmd 0x50
    || (eqb cmd 0x51
    || leb 0x60 cmd)))))))))))))))))))

-- those of a unit: request 10, of VIF0: "It has no codes 02, 03, 06, 11, 13, 15, 50, 51"
abbrev pub listed_on : VifUnit → ℕ → Bool
listed_on which cmd = listed cmd && code_listed which cmd

-- "60-7F UNPACK"
pub record IsUnpack (word : ℕ) : Type 0 where
  pub above : 0x60 ≤ cmd_of word

-- "14 MSCAL, 15 MSCALF, 17 MSCNT"
pub data StartsProgram (word : ℕ) : Type 0 where
  mscal : cmd_of word ≡ 0x14 → StartsProgram word
  mscalf : cmd_of word ≡ 0x15 → StartsProgram word
  mscnt : cmd_of word ≡ 0x17 → StartsProgram word

-- whether DIRECT or DIRECTHL waits
abbrev pub is_direct : Waiting → Bool
is_direct Nothing = false
is_direct (MaskDue i) = false
is_direct (RowDue due i) = false
is_direct (ColDue due i) = false
is_direct (MpgDue a k due i) = false
is_direct (DirectDue due i) = true
is_direct (DirecthlDue due i) = true
is_direct (UnpackDue f u) = false

-- the refusal of a code, what it shows, and the rule that this breaks
pub data CodeFault (which : VifUnit) (v : Vif) (word used : ℕ) (log : List ℕ) : ℕ → Numbers → Type 0 where
  -- "20 CMD not listed"
  cmd_unlisted_lem : listed_on which (cmd_of word) ≡ false → CodeFault which v word used log cmd_unlisted (numbers (cmd_of word) 0)
  -- "21 vl 3 with vn below 3"
  format_missing_lem : IsUnpack word → vl_of word ≡ 3 → vn_of word < 3 → CodeFault which v word used log format_missing (numbers (vn_of word) 0)
  -- "22 remains for WL 0 only"
  cycle_wrong_lem : IsUnpack word → v.wl ≡ 0 → CodeFault which v word used log cycle_wrong (numbers v.wl 0)
  -- "23 STMOD 3"
  mode_wrong_lem : cmd_of word ≡ 0x05 → bits word 0 1 ≡ 3 → CodeFault which v word used log mode_wrong (numbers (bits word 0 1) 0)
  -- "26 for UNPACK with IMM bit 15 on VIF0"
  tops_missing_lem : which ≡ Vif0 → IsUnpack word → bits word 15 15 ≡ 1 → CodeFault which v word used log tops_missing (numbers (bits word 15 15) 0)
  -- "31 log lacks room": a program start is one entry
  start_full : StartsProgram word → free_entries log used < 1 → CodeFault which v word used log log_full (numbers (free_entries log used) 1)

-- the refusal of the next word, what it shows, and the rule that this breaks
pub data WordFault (which : VifUnit) (v : Vif) (p : Path) (n : Incoming) (used : ℕ) (log : List ℕ) : ℕ → Numbers → Type 0 where
  -- of a code's own step
  code : {r : ℕ} {x : Numbers} → v.waiting ≡ Nothing → CodeFault which v (word_in n) used log r x → WordFault which v p n used log r x
  -- "24 DIRECT payload due and the next word isn't word 0"
  direct_unaligned_lem : is_direct v.waiting ≡ true → (word_number n ≡ 0 → ⊥)
      → WordFault which v p n used log direct_unaligned (numbers (word_number n) 0)
  -- "25, VIF step, when the first MPG payload word is due and the next word is word 1 or 3"
  mpg_unaligned_lem : (a k due : ℕ) (i : Bool) → v.waiting ≡ MpgDue a k due i → due ≡ k + k → word_number n % 2 ≡ 1
      → WordFault which v p n used log mpg_unaligned (numbers (word_number n) 0)
  -- of the quadword that DIRECT hands to path 2
  direct : {r : ℕ} {x : Numbers} (a b c d : ℕ) → is_direct v.waiting ≡ true → n ≡ Word0 a b c d
      → QuadwordFault p (quadword (a + b * 2 ^ 32) (c + d * 2 ^ 32)) used log r x
      → WordFault which v p n used log r x

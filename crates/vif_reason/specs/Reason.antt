-- Request 6, of a VIF unit: "the contents of the field at fault: ... 20 CMD, 21 vn, 23 IMM bits 0-1", "22 WL, 24 and 25 the word's number, ... 31 the free log
-- entries and those needed"; request 10: "26 for UNPACK with IMM bit 15 on VIF0, ...; request 6's tool shows that bit".
use Rattle.std.specs.Prelude.{ℕ, ◌+◌, ◌*◌, ◌^◌, List, eqb}
use Rattle.fields.specs.Fields.{if, bits, quadword}
use Rattle.fields.specs.Refusals.{cmd_unlisted, format_missing, cycle_wrong, mode_wrong, tops_missing, log_full}
use Rattle.gif.specs.declared.Path.{Path}
use Rattle.vif_codes.specs.declared.Incoming.{Incoming}
use Rattle.vif_codes.specs.declared.Incoming.TheVariants.{Word0, Word1, Word2, Word3}
use Rattle.vif_codes.specs.declared.Waiting.{Waiting}
use Rattle.vif_codes.specs.declared.Waiting.TheVariants.{Nothing, MaskDue, RowDue, ColDue, MpgDue, DirectDue, DirecthlDue, UnpackDue}
use Rattle.vif_codes.specs.declared.Vif.{Vif}
use Rattle.vif_codes.specs.Codes.{cmd_of}
use Rattle.vif_codes.specs.Words.{word_in}
use Rattle.gif_reason.specs.declared.Numbers.{Numbers}
use Rattle.gif_reason.specs.Reason.{numbers, free_entries, quadword_numbers, quadword_needs}

-- the number of a word in its quadword
abbrev pub word_number : Incoming → ℕ
word_number (Word0 a b c d) = 0
word_number (Word1 a) = 1
word_number (Word2 a) = 2
word_number (Word3 a) = 3

-- "CMD bits 0-1 vl, bits 2-3 vn"
abbrev pub vl_of : ℕ → ℕ
vl_of word = bits (cmd_of word) 0 1

abbrev pub vn_of : ℕ → ℕ
vn_of word = bits (cmd_of word) 2 3

-- what the refusal of a code's own step shows, by the number of entries that the step needs
unfoldable pub code_numbers : ℕ → ℕ → Vif → ℕ → ℕ → List ℕ → Numbers
code_numbers r word v needed used log =
    if (eqb r cmd_unlisted) (numbers (cmd_of word) 0)
    (if (eqb r format_missing) (numbers (vn_of word) 0)
    (if (eqb r cycle_wrong) (numbers v.wl 0)
    (if (eqb r mode_wrong) (numbers (bits word 0 1) 0)
    (if (eqb r tops_missing) (numbers (bits word 15 15) 0)
    (if (eqb r log_full) (numbers (free_entries log used) needed)
    (numbers 0 0))))))

-- what the refusal of a word of DIRECT shows: "24 ... the word's number", or what the GIF's refusal shows
abbrev pub direct_numbers : ℕ → Incoming → Path → ℕ → ℕ → List ℕ → Numbers
direct_numbers r (Word0 a b c d) p needed used log = quadword_numbers r p needed used log
direct_numbers r (Word1 a) p needed used log = numbers 1 0
direct_numbers r (Word2 a) p needed used log = numbers 2 0
direct_numbers r (Word3 a) p needed used log = numbers 3 0

-- by the code that waits
abbrev pub waiting_numbers : Waiting → ℕ → Vif → Path → Incoming → ℕ → ℕ → List ℕ → Numbers
waiting_numbers Nothing r v p n needed used log = code_numbers r (word_in n) v needed used log
waiting_numbers (MaskDue i) r v p n needed used log = numbers 0 0
waiting_numbers (RowDue due i) r v p n needed used log = numbers 0 0
waiting_numbers (ColDue due i) r v p n needed used log = numbers 0 0
waiting_numbers (MpgDue a k due i) r v p n needed used log = numbers (word_number n) 0
waiting_numbers (DirectDue due i) r v p n needed used log = direct_numbers r n p needed used log
waiting_numbers (DirecthlDue due i) r v p n needed used log = direct_numbers r n p needed used log
waiting_numbers (UnpackDue f u) r v p n needed used log = numbers 0 0

-- what the refusal of a word shows
unfoldable pub word_numbers : ℕ → Vif → Path → Incoming → ℕ → ℕ → List ℕ → Numbers
word_numbers r v p n needed used log = waiting_numbers v.waiting r v p n needed used log

-- the entries that a word's step needs, where it needs any: one for a program start, and those of the quadword that DIRECT hands on
abbrev pub direct_needs : Incoming → Path → ℕ
direct_needs (Word0 a b c d) p = quadword_needs p (quadword (a + b * 2 ^ 32) (c + d * 2 ^ 32))
direct_needs (Word1 a) p = 0
direct_needs (Word2 a) p = 0
direct_needs (Word3 a) p = 0

abbrev pub waiting_needs : Waiting → Path → Incoming → ℕ
waiting_needs Nothing p n = 1
waiting_needs (MaskDue i) p n = 0
waiting_needs (RowDue due i) p n = 0
waiting_needs (ColDue due i) p n = 0
waiting_needs (MpgDue a k due i) p n = 0
waiting_needs (DirectDue due i) p n = direct_needs n p
waiting_needs (DirecthlDue due i) p n = direct_needs n p
waiting_needs (UnpackDue f u) p n = 0

unfoldable pub word_needs : Vif → Path → Incoming → ℕ
word_needs v p n = waiting_needs v.waiting p n

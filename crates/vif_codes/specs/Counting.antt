-- What a step of the unit counts for.
use Rattle.std.specs.Prelude.{ℕ, Bool, false, eqb}
use Rattle.fields.specs.declared.UnitCounts.{UnitCounts}
use Rattle.fields.specs.Counts.{no_units, one_word, one_quadword}
use Rattle.vif_codes.specs.declared.Incoming.{Incoming}
use Rattle.vif_codes.specs.VifAnswer.{VifAnswer, Word, Quadword, Refused}
use Rattle.vif_codes.specs.declared.Waiting.{Waiting}
use Rattle.vif_codes.specs.declared.Waiting.TheVariants.{Nothing, MaskDue, RowDue, ColDue, MpgDue, DirectDue, DirecthlDue, UnpackDue}
use Rattle.vif_codes.specs.Codes.{cmd_of}
use Rattle.vif_codes.specs.Words.{word_in}

-- "NOPs": whether a word is decoded as that code, whatever its other bits; where a code waits, the word is payload
abbrev pub nop_in : Waiting → ℕ → Bool
nop_in Nothing word = eqb (cmd_of word) 0x00
nop_in (MaskDue i) word = false
nop_in (RowDue due i) word = false
nop_in (ColDue due i) word = false
nop_in (MpgDue a k due i) word = false
nop_in (DirectDue due i) word = false
nop_in (DirecthlDue due i) word = false
nop_in (UnpackDue f u) word = false

-- what the step counts for, by what waited, the next word and the answer: "VIF words taken (one-word steps)"; only a quadword closes a packet, and it is no word
abbrev pub counts_in : Waiting → Incoming → VifAnswer → UnitCounts
counts_in w n (Word i) = one_word (nop_in w (word_in n))
counts_in w n (Quadword i closed) = one_quadword closed
counts_in w n (Refused k) = no_units

-- One word taken by a VIF unit, or one quadword inside DIRECT: a step of document 01.
use Rattle.std.specs.Prelude.{ℕ, ◌+◌, ◌*◌, ◌-◌, ◌^◌, Bool, not, ◌&&◌, eqb, Result}
use Rattle.fields.specs.Fields.{if, quadword}
use Rattle.fields.specs.declared.refusals.Refusal.{Refusal}
use Rattle.fields.specs.Refusals.{out_of_range, direct_unaligned, mpg_unaligned}
use Rattle.gif.specs.declared.GifPath.TheVariants.{Two}
use Rattle.gif.specs.declared.Path.{Path}
use Rattle.gif.specs.GifAnswer.{GifAnswer, Taken, Refused as GifRefused}
use Rattle.gif.specs.Range.{path_in_range}
use Rattle.gif.specs.Step.{Left as GifLeft, gif_step}
use Rattle.memories.specs.declared.VifUnit.{VifUnit}
use Rattle.memories.specs.Units.{instructions}
use Rattle.memories.specs.Lengths.{Lent, lent, lengths_refusal}
use Rattle.unpack_rules.specs.declared.Format.{Format}
use Rattle.unpack_rules.specs.declared.Unpacking.{Unpacking}
use Rattle.unpack_rules.specs.Write.{Written}
use Rattle.vif_codes.specs.declared.Incoming.{Incoming}
use Rattle.vif_codes.specs.declared.Incoming.TheVariants.{Word0, Word1, Word2, Word3}
use Rattle.vif_codes.specs.VifAnswer.{VifAnswer, Word, Quadword, Refused, vif_answer}
use Rattle.vif_codes.specs.declared.Taken.{Taken as TakenT}
use Rattle.vif_codes.specs.declared.Waiting.{Waiting}
use Rattle.vif_codes.specs.declared.Waiting.TheVariants.{Nothing, MaskDue, RowDue, ColDue, MpgDue, DirectDue, DirecthlDue, UnpackDue}
use Rattle.vif_codes.specs.declared.Vif.{Vif}
use Rattle.vif_codes.specs.Setters.{with_waiting}
use Rattle.vif_codes.specs.Codes.{interrupt_of, decode_of}
use Rattle.vif_codes.specs.Execute.{Executed, decoded_step}
use Rattle.vif_codes.specs.Payload.{completes, or_nothing, row_word, col_word, mask_word, mpg_stored, mpg_word, unpack_written, unpack_unit}
use Rattle.vif_codes.specs.Range.{unit_in_range}
use Rattle.vif_codes.specs.Words.{word_in, odd_word}
use Rattle.vif.specs.declared.VifResult.{VifResult}

-- the number of an answer: 0 taken, else document 01's refusal number
abbrev pub number_of : VifAnswer → ℕ
number_of (Word i) = 0
number_of (Quadword i closed) = 0
number_of (Refused n) = n

-- what a step leaves: the answer and its number, and all else
pub record Left : Type 0 where
  pub answer : VifAnswer
  pub number : ℕ
  pub unit : Vif
  pub path2 : Path
  pub used : ℕ
  pub memories : Lent

abbrev pub left : VifResult → Lent → Left
left r m = record { answer = vif_answer r.answer; number = number_of (vif_answer r.answer); unit = r.unit; path2 = r.path2; used = r.used; memories = m }

abbrev pub answers : Result TakenT Refusal → Vif → Path → ℕ → VifResult
answers a v p used = record { answer = a; unit = v; path2 = p; used = used }

abbrev pub leaves : VifAnswer → Vif → Path → ℕ → Lent → Left
leaves a v p used m = record { answer = a; number = number_of a; unit = v; path2 = p; used = used; memories = m }

-- the words that an answer took
abbrev pub words_taken : VifAnswer → ℕ
words_taken (Word i) = 1
words_taken (Quadword i closed) = 4
words_taken (Refused n) = 0

-- a refused step changes nothing
abbrev pub refused : ℕ → Vif → Path → ℕ → Lent → Left
refused n v p used m = leaves (Refused n) v p used m

-- a code's own step
abbrev pub after_code : Executed → Path → Lent → Left
after_code e p m = leaves e.answer e.unit p e.used (lent e.mem m.code e.log)

unfoldable pub code_step : VifUnit → Vif → Path → ℕ → ℕ → Lent → Left
code_step which v p word used m = after_code (decoded_step which (decode_of which word) v (interrupt_of word) used m.mem m.log) p m

-- a quadword of DIRECT, by what the GIF made of it
abbrev pub after_gif : GifAnswer → GifLeft → Vif → Path → ℕ → Bool → Waiting → ℕ → Lent → Left
after_gif (Taken closed) o v p due i w used m =
    leaves (Quadword (completes due i) closed) (with_waiting v (or_nothing due w)) o.path o.used (lent m.mem m.code o.log)
after_gif (GifRefused n) o v p due i w used m = refused n v p used m

abbrev pub after_quadword : GifLeft → Vif → Path → ℕ → Bool → Waiting → ℕ → Lent → Left
after_quadword o v p due i w used m = after_gif o.answer o v p due i w used m

-- "50 DIRECT, 51 DIRECTHL: IMM quadwords to path 2"
unfoldable pub give_quadword : ℕ → Vif → Path → ℕ → Bool → Waiting → ℕ → Lent → Left
give_quadword quad v p due i w used m = after_quadword (gif_step Two p quad used m.log) v p due i w used m

-- "24 DIRECT payload due and the next word isn't word 0"; w is what waits if more is due
abbrev pub direct_step : Incoming → Vif → Path → ℕ → Bool → Waiting → ℕ → Lent → Left
direct_step (Word0 a b c d) v p due i w used m = give_quadword (quadword (a + b * 2 ^ 32) (c + d * 2 ^ 32)) v p due i w used m
direct_step (Word1 a) v p due i w used m = refused direct_unaligned v p used m
direct_step (Word2 a) v p due i w used m = refused direct_unaligned v p used m
direct_step (Word3 a) v p due i w used m = refused direct_unaligned v p used m

-- a payload word of UNPACK
abbrev pub after_unpack : Written → Vif → Path → Format → Unpacking → ℕ → ℕ → Lent → Left
after_unpack x v p f u word used m =
    leaves (Word (completes u.due u.interrupt)) (unpack_unit v f u word x.row) p used (lent x.mem m.code m.log)

unfoldable pub unpack_step : VifUnit → Vif → Path → Format → Unpacking → ℕ → ℕ → Lent → Left
unpack_step which v p f u word used m = after_unpack (unpack_written which v f u word m.mem) v p f u word used m

-- request 5: "The first payload word of an MPG must be word 0 or 2 of its quadword. An MPG whose first payload word was taken may go on from any word": of k
-- instructions the first word is due while all k + k words are
unfoldable pub mpg_refused : ℕ → ℕ → Incoming → Bool
mpg_refused k due n = eqb due (k + k) && odd_word n

-- a payload word of MPG
unfoldable pub mpg_step : VifUnit → Vif → Path → ℕ → ℕ → ℕ → Bool → Incoming → ℕ → Lent → Left
mpg_step which v p a k due i n used m =
    if (mpg_refused k due n) (refused mpg_unaligned v p used m)
    (leaves (Word (completes due i)) (mpg_word v a k due i) p used
    (lent m.mem (mpg_stored (instructions which) a k due (word_in n) m.code) m.log))

-- by the code that waits
abbrev pub step_by : VifUnit → Waiting → Vif → Path → Incoming → ℕ → Lent → Left
step_by which Nothing v p n used m = code_step which v p (word_in n) used m
step_by which (MaskDue i) v p n used m = leaves (Word i) (mask_word v (word_in n)) p used m
step_by which (RowDue due i) v p n used m = leaves (Word (completes due i)) (row_word v due i (word_in n)) p used m
step_by which (ColDue due i) v p n used m = leaves (Word (completes due i)) (col_word v due i (word_in n)) p used m
step_by which (MpgDue a k due i) v p n used m = mpg_step which v p a k due i n used m
step_by which (DirectDue due i) v p n used m = direct_step n v p due i (DirectDue (due - 1) i) used m
step_by which (DirecthlDue due i) v p n used m = direct_step n v p due i (DirecthlDue (due - 1) i) used m
step_by which (UnpackDue f u) v p n used m = unpack_step which v p f u (word_in n) used m

-- document 01's step: the next word is given to a unit
unfoldable pub vif_step : VifUnit → Vif → Path → Incoming → ℕ → Lent → Left
vif_step which v p n used m = step_by which v.waiting v p n used m

-- the public step, which tests its own input: 2, 3, 4, 5, else the step
unfoldable pub take_of : VifUnit → Vif → Path → Incoming → ℕ → Lent → Left
take_of which v p n used m =
    if (not (eqb (lengths_refusal which m used) 0)) (refused (lengths_refusal which m used) v p used m)
    (if (not (unit_in_range which v && path_in_range p)) (refused out_of_range v p used m)
    (vif_step which v p n used m))

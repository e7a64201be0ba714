-- A word given to a VIF unit is refused with 20 to 26 or 31, or inside DIRECT with the GIF's 30 or 31, and with no other number.
use Rattle.std.specs.Prelude.{None, Option, Some}
use mathlib.Core.Path.{◌≡◌, refl}
use mathlib.Core.Bool.{Bool, true, not}
use mathlib.Core.List.{List}
use Prim.Native.Nat.{ℕ, ◌-◌}
use lib.Dec.{eqb, leb}
use borrow.Author.Tests.{eqb-false, not-true}
use Rattle.fields.specs.Fields.{bits}
use Rattle.fields.proofs.ChoiceLaws.{if_ind, if_ind_by}
use Rattle.gif.specs.declared.GifPath.TheVariants.{Two}
use Rattle.gif.specs.declared.Path.{Path}
use Rattle.gif.specs.GifAnswer.{GifAnswer}
use Rattle.gif.specs.Step.{Left as GifLeft, gif_step}
use Rattle.memories.specs.declared.VifUnit.{VifUnit}
use Rattle.memories.specs.Lengths.{Lent}
use Rattle.unpack_rules.specs.declared.Format.{Format}
use Rattle.unpack_rules.specs.declared.Unpacking.{Unpacking}
use Rattle.unpack_rules.specs.Formats.{format_named}
use Rattle.vif_codes.specs.declared.Code.{Code}
use Rattle.vif_codes.specs.declared.Code.TheVariants.{Nop, Stcycl, Offset, Base, Itop, Stmod, Mskpath3, Mark, Flushe, Flush, Flusha, Mscal, Mscalf, Mscnt, Stmask, Strow, Stcol, Mpg, Direct, Directhl, Unpack}
use Rattle.vif_codes.specs.declared.UnpackCode.{UnpackCode}
use Rattle.vif_codes.specs.declared.CodeResult.{CodeResult}
use Rattle.vif_codes.specs.Decoded.{Decoded, Known, Unknown}
use Rattle.vif_codes.specs.declared.Incoming.{Incoming}
use Rattle.vif_codes.specs.declared.Incoming.TheVariants.{Word0, Word1, Word2, Word3}
use Rattle.vif_codes.specs.VifAnswer.{VifAnswer, vif_answer, Word, Quadword, Refused}
use Rattle.vif_codes.specs.declared.Waiting.{Waiting}
use Rattle.vif_codes.specs.declared.Waiting.TheVariants.{Nothing, MaskDue, RowDue, ColDue, MpgDue, DirectDue, DirecthlDue, UnpackDue}
use Rattle.vif_codes.specs.declared.Vif.{Vif}
use Rattle.vif_codes.specs.Codes.{imm_of, num_of, cmd_of, interrupt_of, plain_code, unpack_code, unpack_numbers, code_listed, code_of, decode_of}
use Rattle.vif_codes.specs.Execute.{Executed, start_program, set_mode, begin_mpg, unpack_refusal, begin_unpack, execute_of, decoded_step}
use Rattle.vif_codes.specs.Words.{word_in}
use Rattle.vif.specs.Step.{Left, code_step, after_gif, give_quadword, direct_step, unpack_step, mpg_step, step_by, vif_step}
use Rattle.run_refusals.specs.Numbers.{VifNumber, cmd_20, format_21, cycle_22, mode_23, direct_24, mpg_25, tops_26, start_31, of_gif}
use Rattle.run_refusals.proofs.GifNumbers.{GifTold, gif_taken, gif_refusal, gif_told}

pub data VifTold : VifAnswer → Type 0 where
  word_taken : {i : Bool} → VifTold (Word i)
  quadword_taken : {i closed : Bool} → VifTold (Quadword i closed)
  vif_refusal : {n : ℕ} → VifNumber n → VifTold (Refused n)

-- ---- decoding

data DecodedTold : Decoded → Type 0 where
  known : {c : Code} → DecodedTold (Known c)
  unknown : {n : ℕ} → VifNumber n → DecodedTold (Unknown n)

plain_told : (cmd num imm : ℕ) → DecodedTold (plain_code cmd num imm)
unfolding plain_code
plain_told cmd num imm =
    if_ind DecodedTold _ known
    (if_ind DecodedTold _ known
    (if_ind DecodedTold _ known
    (if_ind DecodedTold _ known
    (if_ind DecodedTold _ known
    (if_ind DecodedTold _ known
    (if_ind DecodedTold _ known
    (if_ind DecodedTold _ known
    (if_ind DecodedTold _ known
    (if_ind DecodedTold _ known
    (if_ind DecodedTold _ known
    (if_ind DecodedTold _ known
    (if_ind DecodedTold _ known
    (if_ind DecodedTold _ known
    (if_ind DecodedTold _ known
    (if_ind DecodedTold _ known
    (if_ind DecodedTold _ known
    (if_ind DecodedTold _ known
    (if_ind DecodedTold _ known
    (if_ind DecodedTold _ known
    (unknown cmd_20))))))))))))))))))))

unpack_told : (f : Option Format) (u : UnpackCode) → DecodedTold (unpack_code f u)
unpack_told (Some f) u = known
unpack_told None u = unknown format_21

code_of_told : (which : VifUnit) (cmd num imm : ℕ) → DecodedTold (code_of which cmd num imm)
unfolding code_of
code_of_told which cmd num imm =
    if_ind DecodedTold (leb 0x60 cmd) (unpack_told (format_named (bits cmd 0 3)) (unpack_numbers cmd num imm))
    (if_ind DecodedTold (code_listed which cmd) (plain_told cmd num imm) (unknown cmd_20))

decode_told : (which : VifUnit) (word : ℕ) → DecodedTold (decode_of which word)
unfolding decode_of
decode_told which word = code_of_told which (cmd_of word) (num_of word) (imm_of word)

-- ---- a code's own step

start_told : (which : VifUnit) (r x : ℕ) (v : Vif) (i : Bool) (used : ℕ) (mem log : List ℕ)
    → VifTold (start_program which r x v i used mem log).answer
unfolding start_program
start_told which r x v i used mem log = if_ind (λ (e : Executed). VifTold e.answer) _ (vif_refusal start_31) word_taken

mode_told : (m : ℕ) (v : Vif) (i : Bool) (used : ℕ) → VifTold (vif_answer (set_mode m v i used).answer)
unfolding set_mode
mode_told m v i used = if_ind (λ (r : CodeResult). VifTold (vif_answer r.answer)) _ (vif_refusal mode_23) word_taken

-- no refusal, or one of the two
data UnpackTold : ℕ → Type 0 where
  accepted : UnpackTold 0
  refusal : {n : ℕ} → VifNumber n → UnpackTold n

unpack_refusal_told : (which : VifUnit) (u : UnpackCode) (v : Vif) → UnpackTold (unpack_refusal which u v)
unfolding unpack_refusal
unpack_refusal_told which u v = if_ind UnpackTold _ (refusal cycle_22) (if_ind UnpackTold _ (refusal tops_26) accepted)

some_refusal : {n : ℕ} → UnpackTold n → not (eqb n 0) ≡ true → VifNumber n
some_refusal accepted e = absurd (eqb-false 0 0 (not-true _ e) refl)
some_refusal (refusal s) e = s

begin_told : (which : VifUnit) (f : Format) (u : UnpackCode) (v : Vif) (i : Bool) (used : ℕ) (mem log : List ℕ)
    → VifTold (begin_unpack which f u v i used mem log).answer
unfolding begin_unpack
begin_told which f u v i used mem log =
    if_ind_by (λ (e : Executed). VifTold e.answer) _ (λ e. vif_refusal (some_refusal (unpack_refusal_told which u v) e))
    (λ _. if_ind (λ (e : Executed). VifTold e.answer) _ word_taken word_taken)

execute_told : (which : VifUnit) (c : Code) (v : Vif) (i : Bool) (used : ℕ) (mem log : List ℕ)
    → VifTold (execute_of which c v i used mem log).answer
unfolding begin_mpg
execute_told which Nop v i used mem log = word_taken
execute_told which (Stcycl cl wl) v i used mem log = word_taken
execute_told which (Offset x) v i used mem log = word_taken
execute_told which (Base x) v i used mem log = word_taken
execute_told which (Itop x) v i used mem log = word_taken
execute_told which (Stmod m) v i used mem log = mode_told m v i used
execute_told which (Mskpath3 b) v i used mem log = word_taken
execute_told which (Mark x) v i used mem log = word_taken
execute_told which Flushe v i used mem log = word_taken
execute_told which Flush v i used mem log = word_taken
execute_told which Flusha v i used mem log = word_taken
execute_told which (Mscal x) v i used mem log = start_told which 256 x v i used mem log
execute_told which (Mscalf x) v i used mem log = start_told which 257 x v i used mem log
execute_told which Mscnt v i used mem log = start_told which 258 0 v i used mem log
execute_told which Stmask v i used mem log = word_taken
execute_told which Strow v i used mem log = word_taken
execute_told which Stcol v i used mem log = word_taken
execute_told which (Mpg a num) v i used mem log = word_taken
execute_told which (Direct n) v i used mem log = word_taken
execute_told which (Directhl n) v i used mem log = word_taken
execute_told which (Unpack f u) v i used mem log = begin_told which f u v i used mem log

decoded_told : (which : VifUnit) (d : Decoded) (v : Vif) (i : Bool) (used : ℕ) (mem log : List ℕ) → DecodedTold d
    → VifTold (decoded_step which d v i used mem log).answer
decoded_told which (Known c) v i used mem log known = execute_told which c v i used mem log
decoded_told which (Unknown n) v i used mem log (unknown s) = vif_refusal s

code_told : (which : VifUnit) (v : Vif) (p : Path) (word used : ℕ) (m : Lent) → VifTold (code_step which v p word used m).answer
unfolding code_step
code_told which v p word used m =
    decoded_told which (decode_of which word) v (interrupt_of word) used m.mem m.log (decode_told which word)

-- ---- payload

after_gif_told : {a : GifAnswer} (o : GifLeft) (v : Vif) (p : Path) (due : ℕ) (i : Bool) (w : Waiting) (used : ℕ) (m : Lent) → GifTold a
    → VifTold (after_gif a o v p due i w used m).answer
after_gif_told o v p due i w used m gif_taken = quadword_taken
after_gif_told o v p due i w used m (gif_refusal s) = vif_refusal (of_gif s)

give_told : (quad : ℕ) (v : Vif) (p : Path) (due : ℕ) (i : Bool) (w : Waiting) (used : ℕ) (m : Lent)
    → VifTold (give_quadword quad v p due i w used m).answer
unfolding give_quadword
give_told quad v p due i w used m =
    after_gif_told (gif_step Two p quad used m.log) v p due i w used m (gif_told Two p quad used m.log)

direct_told : (n : Incoming) (v : Vif) (p : Path) (due : ℕ) (i : Bool) (w : Waiting) (used : ℕ) (m : Lent)
    → VifTold (direct_step n v p due i w used m).answer
direct_told (Word0 a b c d) v p due i w used m = give_told _ v p due i w used m
direct_told (Word1 a) v p due i w used m = vif_refusal direct_24
direct_told (Word2 a) v p due i w used m = vif_refusal direct_24
direct_told (Word3 a) v p due i w used m = vif_refusal direct_24

mpg_told : (which : VifUnit) (v : Vif) (p : Path) (a k due : ℕ) (i : Bool) (n : Incoming) (used : ℕ) (m : Lent)
    → VifTold (mpg_step which v p a k due i n used m).answer
unfolding mpg_step
mpg_told which v p a k due i n used m = if_ind (λ (l : Left). VifTold l.answer) _ (vif_refusal mpg_25) word_taken

unpacked_told : (which : VifUnit) (v : Vif) (p : Path) (f : Format) (u : Unpacking) (word used : ℕ) (m : Lent)
    → VifTold (unpack_step which v p f u word used m).answer
unfolding unpack_step
unpacked_told which v p f u word used m = word_taken

waiting_told : (which : VifUnit) (w : Waiting) (v : Vif) (p : Path) (n : Incoming) (used : ℕ) (m : Lent)
    → VifTold (step_by which w v p n used m).answer
waiting_told which Nothing v p n used m = code_told which v p (word_in n) used m
waiting_told which (MaskDue i) v p n used m = word_taken
waiting_told which (RowDue due i) v p n used m = word_taken
waiting_told which (ColDue due i) v p n used m = word_taken
waiting_told which (MpgDue a k due i) v p n used m = mpg_told which v p a k due i n used m
waiting_told which (DirectDue due i) v p n used m = direct_told n v p due i (DirectDue (due - 1) i) used m
waiting_told which (DirecthlDue due i) v p n used m = direct_told n v p due i (DirecthlDue (due - 1) i) used m
waiting_told which (UnpackDue f u) v p n used m = unpacked_told which v p f u (word_in n) used m

pub vif_told : (which : VifUnit) (v : Vif) (p : Path) (n : Incoming) (used : ℕ) (m : Lent) → VifTold (vif_step which v p n used m).answer
unfolding vif_step
vif_told which v p n used m = waiting_told which v.waiting v p n used m

vif_number : {n : ℕ} → VifTold (Refused n) → VifNumber n
vif_number (vif_refusal s) = s

pub vif_refused : (which : VifUnit) (v : Vif) (p : Path) (next : Incoming) (used : ℕ) (m : Lent) {n : ℕ}
    → (vif_step which v p next used m).answer ≡ Refused n → VifNumber n
vif_refused which v p next used m h = let t = vif_told which v p next used m in vif_number (rw h at t)

-- A word tried on memories and a log of its own is refused as it would be on others, but for want of room in the log.
use Rattle.std.specs.Prelude.{None, Option, Some, Ok, Err}
use Rattle.fields.specs.declared.refusals.Refusal.TheVariants.{ModeWrong}
use Rattle.vif_codes.specs.declared.Taken.TheVariants.{Word as TakenWord}
use mathlib.Core.Path.{◌≡◌, refl, sym, ◌∙◌}
use mathlib.Core.Bool.{Bool, true, false, not}
use mathlib.Core.List.{List, [], ◌∷◌}
use Prim.Native.Nat.{ℕ, ◌+◌, ◌*◌, ◌^◌, ◌≤◌}
use native.Mathlib.Omega.{arith}
use borrow.Author.Tests.{le-ltb}
use lib.ListN.{length}
use lib.Dec.{eqb, leb}
use Rattle.fields.specs.Fields.{if, bits, quadword}
use Rattle.fields.specs.Refusals.{cmd_unlisted, format_missing, mode_wrong, direct_unaligned, mpg_unaligned, log_full}
use Rattle.fields.proofs.ChoiceLaws.{if_ind}
use Rattle.gif.specs.declared.GifPath.TheVariants.{Two}
use Rattle.gif.specs.declared.Path.{Path}
use Rattle.gif.specs.GifAnswer.{GifAnswer, Taken, Refused as GifRefused}
use Rattle.gif.specs.Log.{entry_size, start_entry, logged, lacks_room}
use Rattle.gif.specs.Step.{Left as GifLeft, gif_step}
use Rattle.memories.specs.declared.VifUnit.{VifUnit}
use Rattle.memories.specs.Lengths.{Lent}
use Rattle.unpack_rules.specs.declared.Format.{Format}
use Rattle.unpack_rules.specs.Formats.{format_named}
use Rattle.unpack_rules.specs.Range.{cycle_refused}
use Rattle.vif_codes.specs.declared.Code.{Code}
use Rattle.vif_codes.specs.declared.Code.TheVariants.{Nop, Stcycl, Offset, Base, Itop, Stmod, Mskpath3, Mark, Flushe, Flush, Flusha, Mscal, Mscalf, Mscnt, Stmask, Strow, Stcol, Mpg, Direct, Directhl, Unpack}
use Rattle.vif_codes.specs.declared.UnpackCode.{UnpackCode}
use Rattle.vif_codes.specs.Decoded.{Decoded, Known, Unknown}
use Rattle.vif_codes.specs.declared.Incoming.{Incoming}
use Rattle.vif_codes.specs.declared.Incoming.TheVariants.{Word0, Word1, Word2, Word3}
use Rattle.vif_codes.specs.VifAnswer.{VifAnswer, Word, Quadword, Refused}
use Rattle.vif_codes.specs.declared.Waiting.{Waiting}
use Rattle.vif_codes.specs.declared.Waiting.TheVariants.{Nothing, MaskDue, RowDue, ColDue, MpgDue, DirectDue, DirecthlDue, UnpackDue}
use Rattle.vif_codes.specs.declared.Vif.{Vif}
use Rattle.vif_codes.specs.Codes.{cmd_of, num_of, imm_of, interrupt_of, code_listed, plain_code, unpack_code, unpack_numbers, code_of, decode_of}
use Rattle.vif_codes.specs.Setters.{with_mode}
use Rattle.vif_codes.specs.Execute.{Executed, executed, code_result, result_with, started, start_program, set_mode, begin_mpg, tops_refused, unpack_refusal, begin_unpack, execute_of, decoded_step}
use Rattle.vif_codes.specs.Words.{word_in}
use Rattle.vif.specs.Step.{Left, leaves, refused, after_gif, give_quadword, direct_step, mpg_refused, mpg_step, unpack_step, code_step, step_by, vif_step}
use Rattle.gif_reason.specs.Reason.{quadword_needs}
use Rattle.gif_reason.proofs.Trial.{Outcome, goes, refuses, Tried, refuses_tried, goes_tried, needs_tried, carried, no_goes, outcome_of as gifOutcome, quadword_tried}
use Rattle.vif_reason.specs.Reason.{direct_needs, waiting_needs, word_needs}

abbrev pub outcome_of : VifAnswer → Outcome
outcome_of (Word i) = goes
outcome_of (Quadword i c) = goes
outcome_of (Refused n) = refuses n

-- ---- no word is refused for want of room before it is decoded

record Otherwise (d : Decoded) : Type 0 where
  otherwise : (n : ℕ) → d ≡ Unknown n → n ≡ log_full → ⊥

known : (c : Code) → Otherwise (Known c)
known c = record { otherwise = λ n e q. let z : ◌≡◌ {A = ℕ} 0 1 = cc in omega arith }

unknown : (k : ℕ) → (k ≡ log_full → ⊥) → Otherwise (Unknown k)
unknown k h = record { otherwise = λ n e q. let w : k ≡ n = cc in h (w ∙ q) }

plain_otherwise : (cmd num imm : ℕ) → Otherwise (plain_code cmd num imm)
unfolding plain_code
plain_otherwise cmd num imm =
    if_ind Otherwise _ (known _)
    (if_ind Otherwise _ (known _)
    (if_ind Otherwise _ (known _)
    (if_ind Otherwise _ (known _)
    (if_ind Otherwise _ (known _)
    (if_ind Otherwise _ (known _)
    (if_ind Otherwise _ (known _)
    (if_ind Otherwise _ (known _)
    (if_ind Otherwise _ (known _)
    (if_ind Otherwise _ (known _)
    (if_ind Otherwise _ (known _)
    (if_ind Otherwise _ (known _)
    (if_ind Otherwise _ (known _)
    (if_ind Otherwise _ (known _)
    (if_ind Otherwise _ (known _)
    (if_ind Otherwise _ (known _)
    (if_ind Otherwise _ (known _)
    (if_ind Otherwise _ (known _)
    (if_ind Otherwise _ (known _)
    (if_ind Otherwise _ (known _) (unknown cmd_unlisted (λ e. omega arith)))))))))))))))))))))

unpack_otherwise : (f : Option Format) (u : UnpackCode) → Otherwise (unpack_code f u)
unpack_otherwise (Some f) u = known _
unpack_otherwise None u = unknown format_missing (λ e. omega arith)

decoded_otherwise : (which : VifUnit) (word : ℕ) → Otherwise (decode_of which word)
unfolding decode_of code_of
decoded_otherwise which word =
    if_ind Otherwise (leb 0x60 (cmd_of word)) (unpack_otherwise (format_named (bits (cmd_of word) 0 3)) (unpack_numbers (cmd_of word) (num_of word) (imm_of word)))
    (if_ind Otherwise (code_listed which (cmd_of word)) (plain_otherwise (cmd_of word) (num_of word) (imm_of word)) (unknown cmd_unlisted (λ e. omega arith)))

unpack_refusal_otherwise : (which : VifUnit) (u : UnpackCode) (v : Vif) → unpack_refusal which u v ≡ log_full → ⊥
unfolding unpack_refusal
unpack_refusal_otherwise which u v =
    if_ind (λ (n : ℕ). n ≡ log_full → ⊥) (cycle_refused v.cl v.wl) (λ e. omega arith)
    (if_ind (λ (n : ℕ). n ≡ log_full → ⊥) (tops_refused which u.tops) (λ e. omega arith) (λ e. omega arith))

-- ---- a code's own step

module _ (which : VifUnit) (v : Vif) (used : ℕ) (mem log : List ℕ) (fits : entry_size * used ≤ length log) (mem' spare : List ℕ) (long : length spare ≡ 6) where
  record TriedCode (x y : Executed) : Type 0 where
    tried : Tried log used 1 (outcome_of x.answer) (outcome_of y.answer) y.used

  tried_either : (b : Bool) {x x' y y' : Executed} → TriedCode x x' → TriedCode y y' → TriedCode (if b x y) (if b x' y')
  unfolding if
  tried_either true t u = t
  tried_either false t u = u

  refusal : (n : ℕ) → (n ≡ log_full → ⊥) → TriedCode (executed (Refused n) v used mem log) (executed (Refused n) v 0 mem' spare)
  refusal n h = record { tried = refuses_tried log used 1 n 0 h }

  -- a code that needs no entry
  plain : (i j : Bool) (u w : Vif) (x y : List ℕ) → TriedCode (executed (Word i) u used x log) (executed (Word j) w 0 y spare)
  plain i j u w x y = record { tried = goes_tried log used 1 fits }

  tried_mode : (m : ℕ) (i : Bool) → TriedCode (result_with (set_mode m v i used) mem log) (result_with (set_mode m v i 0) mem' spare)
  unfolding set_mode if
  tried_mode m i = go (eqb m 3)
    where
      go : (b : Bool) → TriedCode (result_with (if b (code_result (Err ModeWrong) v used) (code_result (Ok (TakenWord i)) (with_mode v m) used)) mem log)
          (result_with (if b (code_result (Err ModeWrong) v 0) (code_result (Ok (TakenWord i)) (with_mode v m) 0)) mem' spare)
      go true = refusal mode_wrong (λ e. omega arith)
      go false = plain i i _ _ _ _

  has_room : lacks_room spare 0 1 ≡ false
  unfolding lacks_room
  has_room = le-ltb (length spare) (entry_size * (0 + 1)) (omega arith)

  tried_start : (r x : ℕ) (i : Bool) → TriedCode (start_program which r x v i used mem log) (start_program which r x v i 0 mem' spare)
  unfolding start_program if
  tried_start r x i = rw has_room (go (lacks_room log used 1) refl)
    where
      go : (b : Bool) → lacks_room log used 1 ≡ b
          → TriedCode (if b (executed (Refused log_full) v used mem log) (executed (Word i) (started which v) (used + 1) mem (logged log used (start_entry r x ∷ []))))
          (executed (Word i) (started which v) (0 + 1) mem' (logged spare 0 (start_entry r x ∷ [])))
      go true e = record { tried = needs_tried log used 1 true e }
      go false e = record { tried = needs_tried log used 1 false e }

  tried_unpack : (f : Format) (u : UnpackCode) (i : Bool) → TriedCode (begin_unpack which f u v i used mem log) (begin_unpack which f u v i 0 mem' spare)
  unfolding begin_unpack
  tried_unpack f u i =
      tried_either (not (eqb (unpack_refusal which u v) 0)) (refusal (unpack_refusal which u v) (unpack_refusal_otherwise which u v))
      (tried_either (eqb v.cl 0) (plain i i _ _ _ _) (plain false false _ _ _ _))

  tried_code : (c : Code) (i : Bool) → TriedCode (execute_of which c v i used mem log) (execute_of which c v i 0 mem' spare)
  unfolding begin_mpg
  tried_code Nop i = plain _ _ _ _ _ _
  tried_code (Stcycl cl wl) i = plain _ _ _ _ _ _
  tried_code (Offset x) i = plain _ _ _ _ _ _
  tried_code (Base x) i = plain _ _ _ _ _ _
  tried_code (Itop x) i = plain _ _ _ _ _ _
  tried_code (Stmod m) i = tried_mode m i
  tried_code (Mskpath3 b) i = plain _ _ _ _ _ _
  tried_code (Mark x) i = plain _ _ _ _ _ _
  tried_code Flushe i = plain _ _ _ _ _ _
  tried_code Flush i = plain _ _ _ _ _ _
  tried_code Flusha i = plain _ _ _ _ _ _
  tried_code (Mscal x) i = tried_start 256 x i
  tried_code (Mscalf x) i = tried_start 257 x i
  tried_code Mscnt i = tried_start 258 0 i
  tried_code Stmask i = plain _ _ _ _ _ _
  tried_code Strow i = plain _ _ _ _ _ _
  tried_code Stcol i = plain _ _ _ _ _ _
  tried_code (Mpg a num) i = plain _ _ _ _ _ _
  tried_code (Direct n) i = plain _ _ _ _ _ _
  tried_code (Directhl n) i = plain _ _ _ _ _ _
  tried_code (Unpack f u) i = tried_unpack f u i

  tried_decoded : (d : Decoded) → Otherwise d → (i : Bool) → TriedCode (decoded_step which d v i used mem log) (decoded_step which d v i 0 mem' spare)
  tried_decoded (Known c) h i = tried_code c i
  tried_decoded (Unknown n) h i = refusal n (h.otherwise n refl)

-- ---- a word

module _ (which : VifUnit) (v : Vif) (p : Path) (used : ℕ) (m : Lent) (fits : entry_size * used ≤ length m.log) (m' : Lent) (long : length m'.log ≡ 6) where
  record TriedStep (k : ℕ) (x y : Left) : Type 0 where
    tried : Tried m.log used k (outcome_of x.answer) (outcome_of y.answer) y.used

  -- a word that needs no entry
  taken : (k : ℕ) (i j : Bool) (u w : Vif) (x y : Lent) → TriedStep k (leaves (Word i) u p used x) (leaves (Word j) w p 0 y)
  taken k i j u w x y = record { tried = goes_tried m.log used k fits }

  not_taken : (k n : ℕ) → (n ≡ log_full → ⊥) → TriedStep k (refused n v p used m) (refused n v p 0 m')
  not_taken k n h = record { tried = refuses_tried m.log used k n 0 h }

  -- a quadword of DIRECT is refused as the GIF refuses it
  tried_gif : (k : ℕ) (a b : GifAnswer) (o q : GifLeft) (due : ℕ) (i : Bool) (w : Waiting) → Tried m.log used k (gifOutcome a) (gifOutcome b) q.used
      → TriedStep k (after_gif a o v p due i w used m) (after_gif b q v p due i w 0 m')
  tried_gif k (Taken c) (Taken d) o q due i w t = record { tried = t }
  tried_gif k (Taken c) (GifRefused n) o q due i w t = record { tried = carried m.log used k _ 0 t (λ e. absurd (no_goes (sym e))) }
  tried_gif k (GifRefused n) (Taken d) o q due i w t = record { tried = t }
  tried_gif k (GifRefused n) (GifRefused j) o q due i w t = record { tried = carried m.log used k _ 0 t (λ e. absurd (no_goes (sym e))) }

  tried_direct : (n : Incoming) (due : ℕ) (i : Bool) (w : Waiting) → TriedStep (direct_needs n p) (direct_step n v p due i w used m) (direct_step n v p due i w 0 m')
  unfolding give_quadword
  tried_direct (Word0 a b c d) due i w =
      let quad = quadword (a + b * 2 ^ 32) (c + d * 2 ^ 32) in
      tried_gif (quadword_needs p quad) (gif_step Two p quad used m.log).answer (gif_step Two p quad 0 m'.log).answer _ (gif_step Two p quad 0 m'.log) due i w (quadword_tried Two p used m.log m'.log long quad)
  tried_direct (Word1 a) due i w = not_taken 0 direct_unaligned (λ e. omega arith)
  tried_direct (Word2 a) due i w = not_taken 0 direct_unaligned (λ e. omega arith)
  tried_direct (Word3 a) due i w = not_taken 0 direct_unaligned (λ e. omega arith)

  tried_choice : (k : ℕ) (b : Bool) {x x' y y' : Left} → TriedStep k x x' → TriedStep k y y' → TriedStep k (if b x y) (if b x' y')
  unfolding if
  tried_choice k true t u = t
  tried_choice k false t u = u

  tried_mpg : (a k due : ℕ) (i : Bool) (n : Incoming) → TriedStep 0 (mpg_step which v p a k due i n used m) (mpg_step which v p a k due i n 0 m')
  unfolding mpg_step
  tried_mpg a k due i n = tried_choice 0 (mpg_refused k due n) (not_taken 0 mpg_unaligned (λ e. omega arith)) (taken 0 _ _ _ _ _ _)

  tried_by_lem : (w : Waiting) (n : Incoming) → TriedStep (waiting_needs w p n) (step_by which w v p n used m) (step_by which w v p n 0 m')
  unfolding code_step unpack_step
  tried_by_lem Nothing n =
      record { tried = (tried_decoded which v used m.mem m.log fits m'.mem m'.log long (decode_of which (word_in n)) (decoded_otherwise which (word_in n)) (interrupt_of (word_in n))).tried }
  tried_by_lem (MaskDue i) n = taken 0 _ _ _ _ _ _
  tried_by_lem (RowDue due i) n = taken 0 _ _ _ _ _ _
  tried_by_lem (ColDue due i) n = taken 0 _ _ _ _ _ _
  tried_by_lem (MpgDue a k due i) n = tried_mpg a k due i n
  tried_by_lem (DirectDue due i) n = tried_direct n due i _
  tried_by_lem (DirecthlDue due i) n = tried_direct n due i _
  tried_by_lem (UnpackDue f u) n = taken 0 _ _ _ _ _ _

  -- a word tried on memories of its own
  pub word_tried : (n : Incoming) → Tried m.log used (word_needs v p n) (outcome_of (vif_step which v p n used m).answer) (outcome_of (vif_step which v p n 0 m').answer) (vif_step which v p n 0 m').used
  unfolding vif_step word_needs
  word_tried n = (tried_by_lem v.waiting n).tried

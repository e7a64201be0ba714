-- A unit takes a quadword in one step only where the next word is word 0 of its quadword.
use mathlib.Core.Path.{◌≡◌, refl}
use mathlib.Core.Bool.{Bool, true, false, not}
use mathlib.Core.List.{List}
use Prim.Native.Nat.{ℕ, ◌-◌, ◌/◌, ◌%◌}
use native.Mathlib.Omega.{arith}
use borrow.Author.Tests.{eqb-true}
use lib.Dec.{eqb}
use Rattle.fields.proofs.ChoiceLaws.{if_ind, if_ind_by}
use Rattle.gif.specs.Log.{lacks_room}
use Rattle.gif.specs.declared.Path.{Path}
use Rattle.memories.specs.declared.VifUnit.{VifUnit}
use Rattle.memories.specs.Lengths.{Lent}
use Rattle.unpack_rules.specs.declared.Format.{Format}
use Rattle.vif_codes.specs.declared.Code.{Code}
use Rattle.vif_codes.specs.declared.Code.TheVariants.{Nop, Stcycl, Offset, Base, Itop, Stmod, Mskpath3, Mark, Flushe, Flush, Flusha, Mscal, Mscalf, Mscnt, Stmask, Strow, Stcol, Mpg, Direct, Directhl, Unpack}
use Rattle.vif_codes.specs.declared.UnpackCode.{UnpackCode}
use Rattle.vif_codes.specs.declared.CodeResult.{CodeResult}
use Rattle.vif_codes.specs.Decoded.{Decoded, Known, Unknown}
use Rattle.vif_codes.specs.declared.Incoming.{Incoming}
use Rattle.vif_codes.specs.declared.Incoming.TheVariants.{Word0, Word1, Word2, Word3}
use Rattle.vif_codes.specs.VifAnswer.{VifAnswer, Word, Quadword, Refused, vif_answer}
use Rattle.vif_codes.specs.declared.Waiting.{Waiting}
use Rattle.vif_codes.specs.declared.Waiting.TheVariants.{Nothing, MaskDue, RowDue, ColDue, MpgDue, DirectDue, DirecthlDue, UnpackDue}
use Rattle.vif_codes.specs.declared.Vif.{Vif}
use Rattle.vif_codes.specs.Codes.{interrupt_of, decode_of}
use Rattle.vif_codes.specs.Execute.{Executed, start_program, set_mode, begin_mpg, unpack_refusal, begin_unpack, execute_of, decoded_step}
use Rattle.vif_codes.specs.Words.{word_in, incoming_at}
use Rattle.vif.specs.Step.{Left, direct_step, mpg_refused, mpg_step, unpack_step, code_step, step_by, vif_step}

abbrev pub is_quadword : VifAnswer → Bool
is_quadword (Word i) = false
is_quadword (Quadword i closed) = true
is_quadword (Refused n) = false

abbrev is_first : Incoming → Bool
is_first (Word0 a b c d) = true
is_first (Word1 a) = false
is_first (Word2 a) = false
is_first (Word3 a) = false

-- ---- a code's own step takes a word

module _ (which : VifUnit) (v : Vif) (used : ℕ) (mem log : List ℕ) where
  start_word : (r x : ℕ) (i : Bool) → is_quadword (start_program which r x v i used mem log).answer ≡ false
  unfolding start_program
  start_word r x i = if_ind (λ (e : Executed). is_quadword e.answer ≡ false) (lacks_room log used 1) refl refl

  mode_word : (k : ℕ) (i : Bool) → is_quadword (vif_answer (set_mode k v i used).answer) ≡ false
  unfolding set_mode
  mode_word k i = if_ind (λ (r : CodeResult). is_quadword (vif_answer r.answer) ≡ false) (eqb k 3) refl refl

  unpack_word_lem : (f : Format) (u : UnpackCode) (i : Bool) → is_quadword (begin_unpack which f u v i used mem log).answer ≡ false
  unfolding begin_unpack
  unpack_word_lem f u i =
      if_ind (λ (e : Executed). is_quadword e.answer ≡ false) (not (eqb (unpack_refusal which u v) 0)) refl
      (if_ind (λ (e : Executed). is_quadword e.answer ≡ false) (eqb v.cl 0) refl refl)

  code_word : (c : Code) (i : Bool) → is_quadword (execute_of which c v i used mem log).answer ≡ false
  unfolding begin_mpg
  code_word Nop i = refl
  code_word (Stcycl cl wl) i = refl
  code_word (Offset x) i = refl
  code_word (Base x) i = refl
  code_word (Itop x) i = refl
  code_word (Stmod k) i = mode_word k i
  code_word (Mskpath3 b) i = refl
  code_word (Mark x) i = refl
  code_word Flushe i = refl
  code_word Flush i = refl
  code_word Flusha i = refl
  code_word (Mscal x) i = start_word 256 x i
  code_word (Mscalf x) i = start_word 257 x i
  code_word Mscnt i = start_word 258 0 i
  code_word Stmask i = refl
  code_word Strow i = refl
  code_word Stcol i = refl
  code_word (Mpg a num) i = refl
  code_word (Direct n) i = refl
  code_word (Directhl n) i = refl
  code_word (Unpack f u) i = unpack_word_lem f u i

  decoded_word : (d : Decoded) (i : Bool) → is_quadword (decoded_step which d v i used mem log).answer ≡ false
  decoded_word (Known c) i = code_word c i
  decoded_word (Unknown n) i = refl

-- ---- a step on a word that is not word 0

module _ (which : VifUnit) (v : Vif) (p : Path) (used : ℕ) (m : Lent) where
  direct_word : (n : Incoming) → is_first n ≡ false → (due : ℕ) (i : Bool) (w : Waiting) → is_quadword (direct_step n v p due i w used m).answer ≡ false
  direct_word (Word0 a b c d) h due i w = absurd (let z : ◌≡◌ {A = ℕ} 0 1 = cc in omega arith)
  direct_word (Word1 a) h due i w = refl
  direct_word (Word2 a) h due i w = refl
  direct_word (Word3 a) h due i w = refl

  waiting_word : (w : Waiting) (n : Incoming) → is_first n ≡ false → is_quadword (step_by which w v p n used m).answer ≡ false
  unfolding code_step mpg_step unpack_step
  waiting_word Nothing n h = decoded_word which v used m.mem m.log (decode_of which (word_in n)) (interrupt_of (word_in n))
  waiting_word (MaskDue i) n h = refl
  waiting_word (RowDue due i) n h = refl
  waiting_word (ColDue due i) n h = refl
  waiting_word (MpgDue a k due i) n h = if_ind (λ (o : Left). is_quadword o.answer ≡ false) (mpg_refused k due n) refl refl
  waiting_word (DirectDue due i) n h = direct_word n h due i (DirectDue (due - 1) i)
  waiting_word (DirecthlDue due i) n h = direct_word n h due i (DirecthlDue (due - 1) i)
  waiting_word (UnpackDue f u) n h = refl

  step_word : (n : Incoming) → is_first n ≡ false → is_quadword (vif_step which v p n used m).answer ≡ false
  unfolding vif_step
  step_word n h = waiting_word v.waiting n h

  -- so a quadword begins at word 0
  pub quadword_begins : (main : List ℕ) (a : ℕ) → is_quadword (vif_step which v p (incoming_at main a) used m).answer ≡ true → a / 4 % 4 ≡ 0
  unfolding incoming_at
  quadword_begins main a =
      if_ind_by (λ (n : Incoming). is_quadword (vif_step which v p n used m).answer ≡ true → a / 4 % 4 ≡ 0) (eqb (a / 4 % 4) 0)
      (λ e h. eqb-true (a / 4 % 4) 0 e)
      (λ e.
      if_ind (λ (n : Incoming). is_quadword (vif_step which v p n used m).answer ≡ true → a / 4 % 4 ≡ 0) (eqb (a / 4 % 4) 1) (λ h. no (step_word (Word1 _) refl) h)
      (if_ind (λ (n : Incoming). is_quadword (vif_step which v p n used m).answer ≡ true → a / 4 % 4 ≡ 0) (eqb (a / 4 % 4) 2) (λ h. no (step_word (Word2 _) refl) h)
      (λ h. no (step_word (Word3 _) refl) h)))
    where
      no : {b : Bool} → b ≡ false → b ≡ true → a / 4 % 4 ≡ 0
      no f t = absurd (let z : ◌≡◌ {A = ℕ} 0 1 = cc in omega arith)

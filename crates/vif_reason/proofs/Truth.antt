-- What a refused word shows is found there and breaks the rule.
use mathlib.Core.Path.{◌≡◌, refl, sym, ap, ◌∙◌}
use mathlib.Core.Bool.{Bool, true, false, not, ◌&&◌}
use mathlib.Core.List.{List}
use Prim.Native.Nat.{ℕ, ◌+◌, ◌*◌, ◌%◌, ◌^◌, ◌≤◌}
use native.Mathlib.Omega.{arith}
use borrow.Author.Tests.{eqb-true, eqb-false}
use lib.ListN.{length}
use lib.Dec.{eqb}
use Rattle.fields.specs.Fields.{if, bits, quadword}
use Rattle.fields.specs.Refusals.{mode_wrong, direct_unaligned, mpg_unaligned, log_full}
use Rattle.fields.proofs.ChoiceLaws.{if_ind_by, and_left, and_right, not-true}
use Rattle.gif.specs.declared.GifPath.TheVariants.{Two}
use Rattle.gif.specs.declared.Path.{Path}
use Rattle.gif.specs.GifAnswer.{GifAnswer, Taken, Refused as GifRefused}
use Rattle.gif.specs.Log.{entry_size, lacks_room}
use Rattle.gif.specs.Range.{path_in_range}
use Rattle.gif.specs.Step.{Left as GifLeft, gif_step}
use Rattle.memories.specs.declared.VifUnit.{VifUnit}
use Rattle.memories.specs.declared.VifUnit.TheVariants.{Vif0, Vif1}
use Rattle.memories.specs.Lengths.{Lent}
use Rattle.unpack_rules.specs.declared.Format.{Format}
use Rattle.unpack_rules.specs.Range.{cycle_refused}
use Rattle.vif_codes.specs.declared.Code.{Code}
use Rattle.vif_codes.specs.declared.Code.TheVariants.{Nop, Stcycl, Offset, Base, Itop, Stmod, Mskpath3, Mark, Flushe, Flush, Flusha, Mscal, Mscalf, Mscnt, Stmask, Strow, Stcol, Mpg, Direct, Directhl, Unpack}
use Rattle.vif_codes.specs.declared.UnpackCode.{UnpackCode}
use Rattle.vif_codes.specs.declared.CodeResult.{CodeResult}
use Rattle.vif_codes.specs.Decoded.{Decoded, Known, Unknown}
use Rattle.vif_codes.specs.declared.Incoming.{Incoming}
use Rattle.vif_codes.specs.declared.Incoming.TheVariants.{Word0, Word1, Word2, Word3}
use Rattle.vif_codes.specs.VifAnswer.{Word, Refused}
use Rattle.vif_codes.specs.declared.Waiting.{Waiting}
use Rattle.vif_codes.specs.declared.Waiting.TheVariants.{Nothing, MaskDue, RowDue, ColDue, MpgDue, DirectDue, DirecthlDue, UnpackDue}
use Rattle.vif_codes.specs.declared.Vif.{Vif}
use Rattle.vif_codes.specs.Codes.{imm_of, interrupt_of, decode_of}
use Rattle.vif_codes.specs.Execute.{Executed, executed, result_with, start_program, set_mode, begin_mpg, tops_refused, unpack_refusal, begin_unpack, execute_of, decoded_step}
use Rattle.vif_codes.specs.Words.{word_in, odd_word}
use Rattle.vif.specs.Step.{Left, leaves, refused, after_gif, give_quadword, direct_step, mpg_refused, mpg_step, unpack_step, code_step, step_by, vif_step}
use Rattle.gif_reason.specs.Reason.{numbers}
use Rattle.gif_reason.proofs.Truth.{free_below, quadword_told}
use Rattle.vif_reason.specs.Reason.{word_number, code_numbers, direct_numbers, waiting_numbers, word_numbers, direct_needs, waiting_needs, word_needs}
use Rattle.vif_reason.specs.Fault.{StartsProgram, is_direct, CodeFault, cmd_unlisted_lem, format_missing_lem, cycle_wrong_lem, mode_wrong_lem, tops_missing_lem, start_full, WordFault, code, direct_unaligned_lem, mpg_unaligned_lem, direct}
use Rattle.vif_reason.proofs.DecodeLaws.{Cause, unlisted, missing, ModeOf, UnpackOf, CodeSays, Says, decoded_says}

-- ---- a code's own step

-- the bits of IMM that are shown are those of the word
mode_bits : (word : ℕ) → bits (imm_of word) 0 1 ≡ bits word 0 1
unfolding bits
mode_bits word = omega arith

tops_bit : (word : ℕ) → bits (imm_of word) 15 15 ≡ bits word 15 15
unfolding bits
tops_bit word = omega arith

small_alone : (which : VifUnit) (b : Bool) → tops_refused which b ≡ true → (which ≡ Vif0) × (b ≡ true)
small_alone Vif0 b e = (refl, e)
small_alone Vif1 b e = absurd (let z : ◌≡◌ {A = ℕ} 0 1 = cc in omega arith)

module _ (which : VifUnit) (v : Vif) (word used : ℕ) (mem log : List ℕ) (h : entry_size * used ≤ length log) where
  abbrev Shown : ℕ → Type 0
  Shown n = CodeFault which v word used log n (code_numbers n word v 1 used log)

  record Told (e : Executed) : Type 0 where
    told : (n : ℕ) → e.answer ≡ Refused n → Shown n

  told_word : (i : Bool) (u : Vif) (k : ℕ) (x y : List ℕ) → Told (executed (Word i) u k x y)
  told_word i u k x y = record { told = λ n e. absurd (let z : ◌≡◌ {A = ℕ} 0 1 = cc in omega arith) }

  told_refused : (k : ℕ) → Shown k → Told (executed (Refused k) v used mem log)
  told_refused k s = record { told = λ n e. let q : k ≡ n = cc in rw (sym q) s }

  told_start : (r x : ℕ) (i : Bool) → StartsProgram word → Told (start_program which r x v i used mem log)
  unfolding start_program code_numbers if
  told_start r x i s =
      if_ind_by Told (lacks_room log used 1) (λ e. told_refused log_full (start_full s (free_below log used 1 h e))) (λ e. told_word i _ _ _ _)

  told_mode : (m : ℕ) (i : Bool) → ModeOf word m → Told (result_with (set_mode m v i used) mem log)
  unfolding set_mode code_numbers if
  told_mode m i s =
      if_ind_by (λ (r : CodeResult). Told (result_with r mem log)) (eqb m 3)
      (λ e. told_refused mode_wrong (mode_wrong_lem s.is_stmod (sym (mode_bits word) ∙ sym s.mode ∙ eqb-true m 3 e)))
      (λ e. told_word i _ _ _ _)

  abbrev Unless0 : ℕ → Type 0
  Unless0 n = (n ≡ 0 → ⊥) → Shown n

  told_refusal : (u : UnpackCode) → UnpackOf word u → Unless0 (unpack_refusal which u v)
  unfolding unpack_refusal cycle_refused code_numbers if
  told_refusal u s =
      if_ind_by Unless0 (eqb v.wl 0) (λ e z. cycle_wrong_lem s.is_unpack (eqb-true _ _ e))
      (λ w.
      if_ind_by Unless0 (tops_refused which u.tops)
      (λ e z.
      let a = small_alone which u.tops e in
      tops_missing_lem a.0 s.is_unpack (sym (tops_bit word) ∙ eqb-true _ _ (sym s.bit15 ∙ a.1)))
      (λ e z. absurd (z refl)))

  told_unpack : (f : Format) (u : UnpackCode) (i : Bool) → UnpackOf word u → Told (begin_unpack which f u v i used mem log)
  unfolding begin_unpack
  told_unpack f u i s =
      if_ind_by Told (not (eqb (unpack_refusal which u v) 0))
      (λ e. told_refused (unpack_refusal which u v) (told_refusal u s (eqb-false _ _ (not-true _ e))))
      (λ e. if_ind_by Told (eqb v.cl 0) (λ c. told_word i _ _ _ _) (λ c. told_word false _ _ _ _))

  told_code : (c : Code) (i : Bool) → CodeSays word c → Told (execute_of which c v i used mem log)
  unfolding begin_mpg
  told_code Nop i s = told_word _ _ _ _ _
  told_code (Stcycl cl wl) i s = told_word _ _ _ _ _
  told_code (Offset x) i s = told_word _ _ _ _ _
  told_code (Base x) i s = told_word _ _ _ _ _
  told_code (Itop x) i s = told_word _ _ _ _ _
  told_code (Stmod m) i s = told_mode m i s
  told_code (Mskpath3 b) i s = told_word _ _ _ _ _
  told_code (Mark x) i s = told_word _ _ _ _ _
  told_code Flushe i s = told_word _ _ _ _ _
  told_code Flush i s = told_word _ _ _ _ _
  told_code Flusha i s = told_word _ _ _ _ _
  told_code (Mscal x) i s = told_start 256 x i s
  told_code (Mscalf x) i s = told_start 257 x i s
  told_code Mscnt i s = told_start 258 0 i s
  told_code Stmask i s = told_word _ _ _ _ _
  told_code Strow i s = told_word _ _ _ _ _
  told_code Stcol i s = told_word _ _ _ _ _
  told_code (Mpg a num) i s = told_word _ _ _ _ _
  told_code (Direct n) i s = told_word _ _ _ _ _
  told_code (Directhl n) i s = told_word _ _ _ _ _
  told_code (Unpack f u) i s = told_unpack f u i s

  told_cause : (n : ℕ) → Cause which word n → Shown n
  unfolding code_numbers if
  told_cause n (unlisted e) = cmd_unlisted_lem e
  told_cause n (missing u a b) = format_missing_lem u a b

  told_decoded : (d : Decoded) (i : Bool) → Says which word d → Told (decoded_step which d v i used mem log)
  told_decoded (Known c) i s = told_code c i s
  told_decoded (Unknown n) i s = told_refused n (told_cause n s)

-- ---- a word

odd_number : (n : Incoming) → odd_word n ≡ true → word_number n % 2 ≡ 1
odd_number (Word0 a b c d) e = absurd (let z : ◌≡◌ {A = ℕ} 0 1 = cc in omega arith)
odd_number (Word1 a) e = refl
odd_number (Word2 a) e = absurd (let z : ◌≡◌ {A = ℕ} 0 1 = cc in omega arith)
odd_number (Word3 a) e = refl

-- what a word shows that DIRECT cannot take
number_shown : (x : Incoming) → (word_number x ≡ 0 → ⊥) → (k : ℕ) (p : Path) (needed used : ℕ) (log : List ℕ) → direct_numbers k x p needed used log ≡ numbers (word_number x) 0
number_shown (Word0 a b c d) f k p needed used log = absurd (f refl)
number_shown (Word1 a) f k p needed used log = refl
number_shown (Word2 a) f k p needed used log = refl
number_shown (Word3 a) f k p needed used log = refl

module _ (which : VifUnit) (v : Vif) (p : Path) (r : path_in_range p ≡ true) (n : Incoming) (used : ℕ) (m : Lent) (h : entry_size * used ≤ length m.log) where
  abbrev ShownWord : ℕ → Type 0
  ShownWord k = WordFault which v p n used m.log k (word_numbers k v p n (word_needs v p n) used m.log)

  record ToldWord (o : Left) : Type 0 where
    told : (k : ℕ) → o.answer ≡ Refused k → ShownWord k

  word_taken : (i : Bool) (u : Vif) (q : Path) (j : ℕ) (l : Lent) → ToldWord (leaves (Word i) u q j l)
  word_taken i u q j l = record { told = λ k e. absurd (let z : ◌≡◌ {A = ℕ} 0 1 = cc in omega arith) }

  word_refused : (k : ℕ) → ShownWord k → ToldWord (refused k v p used m)
  word_refused k s = record { told = λ j e. let q : k ≡ j = cc in rw (sym q) s }

  -- the numbers, by the code that waits
  shown_by : (w : Waiting) → v.waiting ≡ w → (k : ℕ) → WordFault which v p n used m.log k (waiting_numbers w k v p n (waiting_needs w p n) used m.log) → ShownWord k
  unfolding word_numbers word_needs
  shown_by w e k f = rw (ap (λ (x : Waiting). waiting_numbers x k v p n (waiting_needs x p n) used m.log) e) f

  told_nothing : v.waiting ≡ Nothing → ToldWord (code_step which v p (word_in n) used m)
  unfolding code_step
  told_nothing e =
      record {
        told =
            λ k q.
            shown_by Nothing e k
            (code e ((told_decoded which v (word_in n) used m.mem m.log h (decode_of which (word_in n)) (interrupt_of (word_in n)) (decoded_says which (word_in n))).told k q));
      }

  told_mpg : (a k due : ℕ) (i : Bool) → v.waiting ≡ MpgDue a k due i → ToldWord (mpg_step which v p a k due i n used m)
  unfolding mpg_step mpg_refused
  told_mpg a k due i e =
      if_ind_by ToldWord (eqb due (k + k) && odd_word n)
      (λ q.
      word_refused mpg_unaligned
      (shown_by (MpgDue a k due i) e mpg_unaligned (mpg_unaligned_lem a k due i e (eqb-true _ _ (and_left _ _ q)) (odd_number n (and_right (eqb due (k + k)) _ q)))))
      (λ q. word_taken _ _ _ _ _)

  -- a quadword of DIRECT is refused as the GIF refuses it
  told_gif : (a : GifAnswer) (o : GifLeft) (due : ℕ) (i : Bool) (w : Waiting) → ((k : ℕ) → a ≡ GifRefused k → ShownWord k) → ToldWord (after_gif a o v p due i w used m)
  told_gif (Taken c) o due i w f = record { told = λ k e. absurd (let z : ◌≡◌ {A = ℕ} 0 1 = cc in omega arith) }
  told_gif (GifRefused k) o due i w f = word_refused k (f k refl)

  -- DIRECT or DIRECTHL waits, and shows what direct_numbers says
  record Directed : Type 0 where
    waits : is_direct v.waiting ≡ true
    shows : (k : ℕ) → WordFault which v p n used m.log k (direct_numbers k n p (direct_needs n p) used m.log) → ShownWord k

  shown_at : (x : Incoming) → n ≡ x → (k : ℕ) → direct_numbers k n p (direct_needs n p) used m.log ≡ direct_numbers k x p (direct_needs x p) used m.log
  shown_at x q k = ap (λ (y : Incoming). direct_numbers k y p (direct_needs y p) used m.log) q

  unaligned : Directed → (x : Incoming) → n ≡ x → (word_number x ≡ 0 → ⊥) → ToldWord (refused direct_unaligned v p used m)
  unaligned d x q f =
      word_refused direct_unaligned
      (d.shows direct_unaligned (rw (shown_at x q direct_unaligned ∙ number_shown x f direct_unaligned p (direct_needs x p) used m.log ∙ same) (direct_unaligned_lem d.waits other)))
    where
      other : word_number n ≡ 0 → ⊥
      other e = f (sym (ap (λ (y : Incoming). word_number y) q) ∙ e)

      same : numbers (word_number x) 0 ≡ numbers (word_number n) 0
      same = ap (λ (y : Incoming). numbers (word_number y) 0) (sym q)

  told_direct : Directed → (x : Incoming) → n ≡ x → (due : ℕ) (i : Bool) (w : Waiting) → ToldWord (direct_step x v p due i w used m)
  unfolding give_quadword
  told_direct d (Word0 a b c e) q due i w =
      let quad = quadword (a + b * 2 ^ 32) (c + e * 2 ^ 32) in
      told_gif (gif_step Two p quad used m.log).answer (gif_step Two p quad used m.log) due i w
      (λ k g. d.shows k (rw (shown_at (Word0 a b c e) q k) (direct a b c e d.waits q (quadword_told Two p r quad used m.log h k g))))
  told_direct d (Word1 a) q due i w = unaligned d (Word1 a) q (λ e. omega arith)
  told_direct d (Word2 a) q due i w = unaligned d (Word2 a) q (λ e. omega arith)
  told_direct d (Word3 a) q due i w = unaligned d (Word3 a) q (λ e. omega arith)

  told_by_lem : (w : Waiting) → v.waiting ≡ w → ToldWord (step_by which w v p n used m)
  unfolding unpack_step
  told_by_lem Nothing e = told_nothing e
  told_by_lem (MaskDue i) e = word_taken _ _ _ _ _
  told_by_lem (RowDue due i) e = word_taken _ _ _ _ _
  told_by_lem (ColDue due i) e = word_taken _ _ _ _ _
  told_by_lem (MpgDue a k due i) e = told_mpg a k due i e
  told_by_lem (DirectDue due i) e = told_direct (record { waits = rw e; shows = shown_by (DirectDue due i) e }) n refl due i _
  told_by_lem (DirecthlDue due i) e = told_direct (record { waits = rw e; shows = shown_by (DirecthlDue due i) e }) n refl due i _
  told_by_lem (UnpackDue f u) e = word_taken _ _ _ _ _

  -- "the shown number is the one found there and does break the rule"
  pub word_told : (k : ℕ) → (vif_step which v p n used m).answer ≡ Refused k → WordFault which v p n used m.log k (word_numbers k v p n (word_needs v p n) used m.log)
  unfolding vif_step
  word_told k e = (told_by_lem v.waiting refl).told k e

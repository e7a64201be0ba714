-- A unit's block gives the unit back.
use Rattle.std.specs.Prelude.{None, Option, Some}
use mathlib.Core.Path.{◌≡◌, refl}
use mathlib.Core.Bool.{Bool, true, false}
use mathlib.Core.List.{List, [], ◌∷◌, ◌++◌}
use mathlib.Core.Logic.{⊎_elim}
use Prim.Native.Nat.{ℕ, ◌<◌, ◌≤◌}
use native.Mathlib.Omega.{arith}
use borrow.Author.Tests.{eq-eqb, ne_eqb, eqb-true}
use lib.Dec.{eqb, leb}
use lib.ListN.{get_or, length, length-append}
use Rattle.std.specs.Bool.{then_some}
use Rattle.std.proofs.Math.Bool.{and-false}
use Rattle.fields.specs.Fields.{if}
use Rattle.fields.proofs.ChoiceLaws.{if_ind, if_ind_by}
use Rattle.fields.specs.Parts.{with_words}
use Rattle.unpack_rules.specs.declared.Format.{Format}
use Rattle.unpack_rules.specs.Formats.{format_number, format_named}
use Rattle.unpack_rules.proofs.FormatLaws.{named_number, number_named}
use Rattle.vif_codes.specs.declared.Waiting.{Waiting}
use Rattle.vif_codes.specs.declared.Waiting.TheVariants.{Nothing, MaskDue, RowDue, ColDue, MpgDue, DirectDue, DirecthlDue, UnpackDue}
use Rattle.vif_codes.specs.declared.Vif.{Vif}
use Rattle.state_block.specs.Read.{ReadWaiting, ReadUnit, known_waiting, known_unit}
use Rattle.state_block.specs.Sizes.{register_size, waiting_size, unit_size}
use Rattle.state_block.specs.Words.{is_bit, numbered}
use Rattle.state_block.specs.UnitBlock.{a_format, read_format, format_numbered, waiting_number, waiting_words, read_waiting, unpack_with, waitings, waiting_in_block, register_words, unit_block, held_unit, no_unit, read_unit, unit_with, unit_in_block}
use Rattle.state_block.proofs.WordLaws.{bit_is, bit_back, has_number, true_false, then_is}
use Rattle.state_block.proofs.PartLaws.{begins_none, begins_more, begins_all}

-- ---- formats and their numbers

pub format_back : (f : Format) → format_numbered (format_number f) ≡ a_format f
unfolding format_numbered
format_back f = rw (named_number f)

pub format_has : (n : ℕ) → (format_numbered n).known ≡ true → format_number (format_numbered n).format ≡ n
unfolding format_numbered
format_has n h = by_name (format_named n) refl h
  where
    by_name : (r : Option Format) → format_named n ≡ r → (read_format r).known ≡ true → format_number (read_format r).format ≡ n
    by_name (Some f) e k = number_named n f e
    by_name None e k = absurd (let z : ◌≡◌ {A = ℕ} 0 1 = cc in omega arith)

-- ---- the code that waits

waiting_length : (w : Waiting) → length (waiting_words w) ≡ waiting_size
waiting_length Nothing = refl
waiting_length (MaskDue i) = refl
waiting_length (RowDue due i) = refl
waiting_length (ColDue due i) = refl
waiting_length (MpgDue address count due i) = refl
waiting_length (DirectDue due i) = refl
waiting_length (DirecthlDue due i) = refl
waiting_length (UnpackDue f u) = refl

waiting_back : (v : Vif) (w : Waiting) → waiting_in_block (register_words v ++ waiting_words w) ≡ read_waiting true w
unfolding waiting_in_block waitings numbered if
waiting_back v Nothing = refl
waiting_back v (MaskDue i) = rw (bit_is i, bit_back i)
waiting_back v (RowDue due i) = rw (bit_is i, bit_back i)
waiting_back v (ColDue due i) = rw (bit_is i, bit_back i)
waiting_back v (MpgDue address count due i) = rw (bit_is i, bit_back i)
waiting_back v (DirectDue due i) = rw (bit_is i, bit_back i)
waiting_back v (DirecthlDue due i) = rw (bit_is i, bit_back i)
waiting_back v (UnpackDue f u) =
    rw (format_back f, bit_is u.interrupt, bit_is u.usn, bit_is u.masked, bit_back u.interrupt, bit_back u.usn, bit_back u.masked)

pub waiting_has : (b : List ℕ) → (waiting_in_block b).known ≡ true → waiting_number (waiting_in_block b).waiting ≡ get_or b 21 0
unfolding waiting_in_block
waiting_has b h =
    ⊎_elim (λ e. e) (λ e. absurd (let k = rw e at h in let z : ◌≡◌ {A = ℕ} 0 1 = cc in omega arith))
    (has_number (λ (r : ReadWaiting). waiting_number r.waiting) (get_or b 21 0) (waitings b) _)

-- ---- units

unit_words : (v : Vif) (w : Waiting) → length (register_words v ++ waiting_words w) ≡ unit_size
unit_words v w = rw (length-append (register_words v) (waiting_words w), waiting_length w)

pub unit_length : (v : Vif) → length (unit_block v) ≡ unit_size
unfolding unit_block
unit_length v = unit_words v v.waiting

-- the words of a unit, stored part by part
pub unit_stored : (v : Vif) (z : List ℕ) {r w b b' : List ℕ} → length z ≡ unit_size
    → r ≡ register_words v
    → w ≡ waiting_words v.waiting
    → b ≡ with_words z 0 r
    → b' ≡ with_words b register_size w
    → b' ≡ unit_block v
unfolding unit_block
unit_stored v z {r} {w} n e f g h =
    let b = begins_more (begins_none z n) r 0 register_size refl (rw e) (omega arith) g in
    let b' = begins_more b w register_size waiting_size (rw e) (rw (f, waiting_length v.waiting)) (omega arith) h in
    rw (begins_all b' (rw (e, f, unit_words v v.waiting)), e, f)

-- a list of four, element by element
four : (xs : List ℕ) → length xs ≡ 4 → get_or xs 0 0 ∷ get_or xs 1 0 ∷ get_or xs 2 0 ∷ get_or xs 3 0 ∷ [] ≡ xs
four [] h = absurd (omega arith)
four (a ∷ []) h = absurd (omega arith)
four (a ∷ b ∷ []) h = absurd (omega arith)
four (a ∷ b ∷ c ∷ []) h = absurd (omega arith)
four (a ∷ b ∷ c ∷ d ∷ []) h = refl
four (a ∷ b ∷ c ∷ d ∷ e ∷ xs) h = absurd (omega arith)

-- writing a unit and reading the block gives the unit back; ROW and COL are four words in every unit
pub unit_back : (v : Vif) → length v.row ≡ 4 → length v.col ≡ 4 → unit_in_block (unit_block v) ≡ read_unit true v
unfolding unit_in_block unit_with unit_block if
unit_back v h k =
    rw (
      unit_words v v.waiting,
      waiting_back v v.waiting,
      bit_is v.dbf,
      bit_is v.mskpath3,
      bit_back v.dbf,
      bit_back v.mskpath3,
      four v.row h,
      four v.col k,
    )

-- ---- what is read

module _ (b : List ℕ) where
  -- an UNPACK that waits
  pub no_interrupt : is_bit b 22 ≡ false → None ≡ known_waiting (unpack_with (format_numbered (get_or b 26 0)) b)
  no_interrupt e = rw e

  pub no_usn : is_bit b 27 ≡ false → None ≡ known_waiting (unpack_with (format_numbered (get_or b 26 0)) b)
  no_usn e = rw (e, and-false (is_bit b 22))

  pub no_mask : is_bit b 28 ≡ false → None ≡ known_waiting (unpack_with (format_numbered (get_or b 26 0)) b)
  no_mask e = rw (e, and-false (is_bit b 27), and-false (is_bit b 22))

  pub no_format_read : None ≡ format_named (get_or b 26 0) → None ≡ known_waiting (unpack_with (format_numbered (get_or b 26 0)) b)
  unfolding format_numbered
  no_format_read e = rw (← e, and-false (is_bit b 28), and-false (is_bit b 27), and-false (is_bit b 22))

  pub unpack_read : {u m i : Bool} → Some u ≡ then_some (leb (get_or b 27 0) 1) (eqb (get_or b 27 0) 1)
      → Some m ≡ then_some (leb (get_or b 28 0) 1) (eqb (get_or b 28 0) 1)
      → Some i ≡ then_some (leb (get_or b 22 0) 1) (eqb (get_or b 22 0) 1)
      → {f : Format}
      → Some f ≡ format_named (get_or b 26 0)
      → Some
      (UnpackDue f
      (record {
        address = get_or b 24 0;
        count = get_or b 25 0;
        due = get_or b 23 0;
        usn = u;
        masked = m;
        interrupt = i;
        first = get_or b 29 0;
        second = get_or b 30 0;
        third = get_or b 31 0;
      }))
      ≡ known_waiting (unpack_with (format_numbered (get_or b 26 0)) b)
  unfolding format_numbered
  unpack_read p q r e =
      let x = then_is _ _ _ p in
      let y = then_is _ _ _ q in
      let z = then_is _ _ _ r in
      rw (← e, x.0, y.0, z.0, x.1, y.1, z.1)

  -- the code that waits
  pub nothing_read : get_or b 21 0 ≡ 0 → Some Nothing ≡ known_waiting (waiting_in_block b)
  unfolding waiting_in_block waitings numbered if
  nothing_read e = rw e

  pub bit_missing : (get_or b 21 0 ≡ 0 → ⊥) → is_bit b 22 ≡ false → None ≡ known_waiting (waiting_in_block b)
  unfolding waiting_in_block waitings numbered
  bit_missing n e =
      let P : ReadWaiting → Type 0 = λ r. None ≡ known_waiting r in
      if_ind_by P (eqb (get_or b 21 0) 0) (λ t. absurd (n (eqb-true _ _ t)))
      (λ f.
      if_ind P _ (rw e refl)
      (if_ind P _ (rw e refl)
      (if_ind P _ (rw e refl)
      (if_ind P _ (rw e refl) (if_ind P _ (rw e refl) (if_ind P _ (rw e refl) (if_ind P _ (rw e refl) refl)))))))

  pub waits_missing : 7 < get_or b 21 0 → None ≡ known_waiting (waiting_in_block b)
  unfolding waiting_in_block waitings numbered if
  waits_missing h =
      let n : (k : ℕ) → k ≤ 7 → eqb (get_or b 21 0) k ≡ false = λ k l. ne_eqb _ _ (λ e. omega (arith, e)) in
      rw (n 0 (omega arith), n 1 (omega arith), n 2 (omega arith), n 3 (omega arith), n 4 (omega arith), n 5 (omega arith), n 6 (omega arith), n 7 (omega arith))

  -- the unit
  pub no_bit_8 : is_bit b 8 ≡ false → None ≡ known_unit (unit_with (waiting_in_block b) b)
  unfolding unit_with if
  no_bit_8 e = rw e

  pub no_bit_10 : is_bit b 10 ≡ false → None ≡ known_unit (unit_with (waiting_in_block b) b)
  unfolding unit_with if
  no_bit_10 e = rw (e, and-false (is_bit b 8))

  pub none_waits : (waiting_in_block b).known ≡ false → None ≡ known_unit (unit_with (waiting_in_block b) b)
  unfolding unit_with if
  none_waits e = rw (e, and-false (is_bit b 10), and-false (is_bit b 8))

  pub unit_read : {t u : Bool} → Some t ≡ then_some (leb (get_or b 8 0) 1) (eqb (get_or b 8 0) 1)
      → Some u ≡ then_some (leb (get_or b 10 0) 1) (eqb (get_or b 10 0) 1)
      → {w : Waiting}
      → Some w ≡ known_waiting (waiting_in_block b)
      → {v : Vif}
      → v ≡ record (held_unit b w) { dbf = t; mskpath3 = u }
      → Some v ≡ known_unit (unit_with (waiting_in_block b) b)
  unfolding unit_with if
  unit_read p q r e =
      let x = then_is _ _ _ p in
      let y = then_is _ _ _ q in
      let z = then_is _ _ _ r in
      rw (e, x.0, y.0, z.0, x.1, y.1, z.1)

  pub none_long : (length b ≡ unit_size → ⊥) → None ≡ known_unit (unit_in_block b)
  unfolding unit_in_block if
  none_long h = rw (ne_eqb (length b) unit_size h)

  pub words_read : length b ≡ unit_size → known_unit (unit_with (waiting_in_block b) b) ≡ known_unit (unit_in_block b)
  unfolding unit_in_block if
  words_read h = rw (eq-eqb (length b) unit_size h)

  -- what stands for the unit of words that are none's
  pub none_stands : (unit_in_block b).known ≡ false → (unit_in_block b).unit ≡ no_unit
  unfolding unit_in_block unit_with
  none_stands =
      let P : ReadUnit → Type 0 = λ r. r.known ≡ false → r.unit ≡ no_unit in
      if_ind P _ (if_ind P _ (λ h. absurd (true_false h)) (λ h. refl)) (λ h. refl)

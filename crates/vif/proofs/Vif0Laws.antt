-- The small unit, VIF0, as request 10 has it.
use mathlib.Core.Path.{◌≡◌, refl, sym, ◌∙◌}
use mathlib.Core.Bool.{Bool, true, false, not, ◌&&◌, ◌||◌}
use mathlib.Core.List.{List}
use Prim.Native.Nat.{ℕ, zero, suc, ◌+◌, ◌-◌, ◌<◌}
use native.Mathlib.Omega.{arith}
use borrow.Author.Tests.{eqb-true, ne_eqb, lt-leb, not-false}
use lib.Dec.{eqb}
use Rattle.fields.specs.Fields.{if}
use Rattle.fields.specs.Refusals.{cmd_unlisted, tops_missing}
use Rattle.fields.proofs.ChoiceLaws.{if_ind, if_ind_by, and_left, and_right, not-true}
use Rattle.fields.specs.declared.UnitCounts.{UnitCounts}
use Rattle.gif.specs.declared.Path.{Path}
use Rattle.gif.specs.Range.{path_in_range}
use Rattle.memories.specs.declared.VifUnit.TheVariants.{Vif0}
use Rattle.memories.specs.Lengths.{Lent, lengths_refusal}
use Rattle.unpack_rules.specs.declared.Format.{Format}
use Rattle.unpack_rules.specs.Range.{cycle_refused}
use Rattle.vif_codes.specs.declared.Code.TheVariants.{Unpack}
use Rattle.vif_codes.specs.Decoded.{Known, Unknown}
use Rattle.vif_codes.specs.declared.UnpackCode.{UnpackCode}
use Rattle.vif_codes.specs.declared.Incoming.{Incoming}
use Rattle.vif_codes.specs.VifAnswer.{VifAnswer, Word, Quadword, Refused}
use Rattle.vif_codes.specs.declared.Waiting.{Waiting}
use Rattle.vif_codes.specs.declared.Waiting.TheVariants.{Nothing, MaskDue, RowDue, ColDue, MpgDue, DirectDue, DirecthlDue, UnpackDue}
use Rattle.vif_codes.specs.declared.Vif.{Vif}
use Rattle.vif_codes.specs.Codes.{cmd_of, missing_code, code_listed, code_of, decode_of}
use Rattle.vif_codes.specs.Execute.{started, unpack_refusal, begin_unpack}
use Rattle.vif_codes.specs.Range.{direct_in_range, waiting_in_range, unit_in_range}
use Rattle.vif_codes.specs.Words.{incoming_at, word_in}
use Rattle.vif_codes.specs.Counting.{counts_in}
use Rattle.vif_codes.proofs.RangeLaws.{waiting_ranged, unit_registers}
use Rattle.vif.specs.Step.{Left, refused, code_step, mpg_refused, mpg_step, unpack_step, step_by, vif_step, take_of}
use Rattle.vif.specs.Feeds.{Fed}
use Rattle.vif.specs.Feed.{FedOn, fed_to, after_word, feeds_of, takes_steps, words_inside, feed_of}
use Rattle.vif.specs.Inner.{FedReady}
use Rattle.vif.proofs.StepLaws.{by_waiting, code_taken}
use Rattle.vif.proofs.RangeKept.{step_ready}
use Rattle.vif.proofs.FeedLaws.{takes_ready}

-- ---- registers

-- "MSCAL and MSCNT there change ITOP alone of the registers"
pub itop_alone : (v : Vif) → started Vif0 v
    ≡ record {
      cl = v.cl;
      wl = v.wl;
      ofst = v.ofst;
      base = v.base;
      tops = v.tops;
      top = v.top;
      itops = v.itops;
      itop = v.itops;
      dbf = v.dbf;
      mode = v.mode;
      mskpath3 = v.mskpath3;
      mark = v.mark;
      mask = v.mask;
      row = v.row;
      col = v.col;
      waiting = v.waiting;
    }
itop_alone v = refl

-- "0 in each VIF0 register that nothing there writes"; `step-ranges` keeps it so
pub record Unwritten (v : Vif) : Type 0 where
  pub ofst_zero : v.ofst ≡ 0
  pub base_zero : v.base ≡ 0
  pub tops_zero : v.tops ≡ 0
  pub top_zero : v.top ≡ 0
  pub dbf_clear : v.dbf ≡ false
  pub mskpath3_clear : v.mskpath3 ≡ false

pub unwritten : (v : Vif) → unit_in_range Vif0 v ≡ true → Unwritten v
unwritten v h =
    let f = (unit_registers Vif0 v h).1 in
    let a = f.ofst_fits in
    let b = f.base_fits in
    let c = f.tops_fits in
    let d = f.top_fits in
    record {
      ofst_zero = omega arith;
      base_zero = omega arith;
      tops_zero = omega arith;
      top_zero = omega arith;
      dbf_clear = not-true v.dbf f.dbf_fits;
      mskpath3_clear = not-true v.mskpath3 f.mskpath3_fits;
    }

-- ---- refusals

either : (a b : Bool) {P : Type 0} → (a || b) ≡ true → (a ≡ true → P) → (b ≡ true → P) → P
either true b h p q = p refl
either false b h p q = q h

-- the codes named are below 60h
missing_below : (cmd : ℕ) → missing_code cmd ≡ true → cmd < 0x60
unfolding missing_code
missing_below cmd h =
    either _ _ h (is 0x02 (omega arith))
    (λ h.
    either _ _ h (is 0x03 (omega arith))
    (λ h.
    either _ _ h (is 0x06 (omega arith))
    (λ h.
    either _ _ h (is 0x11 (omega arith))
    (λ h.
    either _ _ h (is 0x13 (omega arith))
    (λ h.
    either _ _ h (is 0x15 (omega arith))
    (λ h. either _ _ h (is 0x50 (omega arith)) (is 0x51 (omega arith))))))))
  where
    is : (k : ℕ) → k < 0x60 → eqb cmd k ≡ true → cmd < 0x60
    is k l e = rw (eqb-true cmd k e) l

missing_decoded : (word : ℕ) → missing_code (cmd_of word) ≡ true → decode_of Vif0 word ≡ Unknown cmd_unlisted
unfolding decode_of code_of if
missing_decoded word h = rw (lt-leb _ _ (missing_below (cmd_of word) h), h)

module _ (v : Vif) (p : Path) (used : ℕ) (m : Lent) (n : Incoming) (h : v.waiting ≡ Nothing) where
  -- "20 for the codes named"
  pub missing_refused : missing_code (cmd_of (word_in n)) ≡ true → vif_step Vif0 v p n used m ≡ refused cmd_unlisted v p used m
  unfolding vif_step code_step
  missing_refused c = sym (by_waiting Vif0 h v p n used m (rw (missing_decoded (word_in n) c)))

  -- "26 for UNPACK with IMM bit 15 on VIF0, after 22": where WL is not 0; `wl-refused` has the others
  pub tops_refused_lem : (f : Format) (u : UnpackCode) → decode_of Vif0 (word_in n) ≡ Known (Unpack f u) → u.tops ≡ true → (v.wl ≡ 0 → ⊥)
      → vif_step Vif0 v p n used m ≡ refused tops_missing v p used m
  unfolding begin_unpack unpack_refusal cycle_refused if
  tops_refused_lem f u d t w = code_taken Vif0 v p used m n h refl d refl ∙ rw (ne_eqb v.wl 0 w, t)

-- ---- "no path to the GIF"

-- DIRECT and DIRECTHL are among the codes named, so none waits
no_direct : (cmd due : ℕ) → missing_code cmd ≡ true → direct_in_range Vif0 cmd due ≡ true → ⊥
unfolding direct_in_range
no_direct cmd due c r =
    let l = rw c at (and_left (code_listed Vif0 cmd) _ r) in
    let z : ◌≡◌ {A = ℕ} 0 1 = cc in
    omega arith

module _ (v : Vif) (r : unit_in_range Vif0 v ≡ true) (p : Path) (used : ℕ) (m : Lent) (n : Incoming) where
  path_by : (w : Waiting) → v.waiting ≡ w → (step_by Vif0 w v p n used m).path2 ≡ p
  unfolding missing_code waiting_in_range code_step mpg_step unpack_step
  path_by Nothing q = refl
  path_by (MaskDue i) q = refl
  path_by (RowDue due i) q = refl
  path_by (ColDue due i) q = refl
  path_by (MpgDue a k due i) q = if_ind (λ (o : Left). o.path2 ≡ p) (mpg_refused k due n) refl refl
  path_by (DirectDue due i) q = absurd (no_direct 0x50 due refl (waiting_ranged Vif0 v r q))
  path_by (DirecthlDue due i) q = absurd (no_direct 0x51 due refl (waiting_ranged Vif0 v r q))
  path_by (UnpackDue f u) q = refl

  -- a step leaves path 2 as it was, whatever comes in
  pub step_path : (vif_step Vif0 v p n used m).path2 ≡ p
  unfolding vif_step
  step_path = path_by v.waiting refl

-- and so does the public step, on any input at all
pub take_path : (v : Vif) (p : Path) (n : Incoming) (used : ℕ) (m : Lent) → (take_of Vif0 v p n used m).path2 ≡ p
unfolding take_of
take_path v p n used m =
    if_ind (λ (o : Left). o.path2 ≡ p) (not (eqb (lengths_refusal Vif0 m used) 0)) refl
    (if_ind_by (λ (o : Left). o.path2 ≡ p) (not (unit_in_range Vif0 v && path_in_range p)) (λ _. refl)
    (λ t. step_path v (and_left _ _ (not-false _ t)) p used m n))

-- and words one after another
module _ (main : List ℕ) where
  feeds_path : (n a count : ℕ) (x : Fed) → FedReady Vif0 x → (feeds_of Vif0 main n a count x).after.path2 ≡ x.path2
  unfolding feeds_of
  feeds_path zero a count x r = refl
  feeds_path (suc n) a count x r =
      if_ind (λ (o : FedOn). o.after.path2 ≡ x.path2) (eqb count 0) refl (go (feeds_path n) o.answer (counts_in x.unit.waiting (incoming_at main a) o.answer))
    where
      o : Left
      o = vif_step Vif0 x.unit x.path2 (incoming_at main a) x.used x.memories

      same : o.path2 ≡ x.path2
      same = step_path x.unit r.ranged x.path2 x.used x.memories (incoming_at main a)

      next : FedReady Vif0 (fed_to o)
      next = step_ready Vif0 x.unit x.path2 x.used x.memories r (incoming_at main a) o refl

      go : ((a count : ℕ) (y : Fed) → FedReady Vif0 y → (feeds_of Vif0 main n a count y).after.path2 ≡ y.path2)
          → (b : VifAnswer) (c : UnitCounts) → (after_word (feeds_of Vif0 main n) b c o a count x).after.path2 ≡ x.path2
      go on (Word true) c = same
      go on (Word false) c = on (a + 4) (count - 1) (fed_to o) next ∙ same
      go on (Quadword true d) c = same
      go on (Quadword false d) c = on (a + 16) (count - 4) (fed_to o) next ∙ same
      go on (Refused k) c = refl

  pub feed_path : (limit a count : ℕ) (x : Fed) → (feed_of Vif0 main limit a count x).after.path2 ≡ x.path2
  unfolding feed_of
  feed_path limit a count x =
      if_ind_by (λ (o : FedOn). o.after.path2 ≡ x.path2) (words_inside main a count && takes_steps Vif0 x)
      (λ t. feeds_path limit a count x (takes_ready Vif0 x (and_right (words_inside main a count) _ t)))
      (λ _. refl)

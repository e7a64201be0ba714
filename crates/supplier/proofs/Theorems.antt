-- Request 13: the check accepts exactly if the run leaves the sheet's meaning, names the first difference otherwise, and accepts the chain that the builder makes.
use mathlib.Core.Path.{◌≡◌, refl, sym, ap, ◌∙◌}
use mathlib.Core.Bool.{true, false, not, ◌&&◌}
use mathlib.Core.Logic.{◌↔◌}
use mathlib.Core.List.{List, []}
use Prim.Native.Nat.{ℕ, ◌*◌, ◌<◌, ◌≤◌}
use native.Mathlib.Omega.{arith}
use borrow.Author.Tests.{eq-eqb, eqb-true, eqb-false, lt-ltb, le-ltb, ltb-true, ltb-false, not-false}
use lib.ListN.{length, take}
use lib.Seq.{take_all}
use lib.Dec.{eqb, ltb}
use Rattle.fields.specs.Fields.{if}
use Rattle.fields.proofs.ChoiceLaws.{if_ind_by, and_left, and_right, not-true}
use Rattle.gif.specs.declared.Entry.{Entry}
use Rattle.gif.specs.Log.{log_most, entries_in}
use Rattle.gif.proofs.RangeLaws.{log_fits}
use Rattle.gif.proofs.LogLaws.{in_count}
use Rattle.memories.specs.declared.VifUnit.TheVariants.{Vif1}
use Rattle.memories.specs.Units.{quadwords, instructions, data_words, code_bytes}
use Rattle.memories.specs.Lengths.{Lent, LengthsFit}
use Rattle.chain.specs.Answer.{Answer, Done, Allowance, Interrupt, Refused as RunRefused}
use Rattle.chain_state.specs.declared.State.{State}
use Rattle.chain_state.specs.Range.{entry_refusal}
use Rattle.chain.specs.Run.{Ran, run_of}
use Rattle.sheet.specs.Records.{Record}
use Rattle.sheet.specs.Reader.{Contents, valid, refused}
use Rattle.sheet.specs.Editions.{contents_of}
use Rattle.sheet.specs.Meaning.{Plain, plain}
use Rattle.sheet.specs.Match.{leading}
use Rattle.sheet.proofs.MeaningLaws.{meaning_kept}
use Rattle.compare.specs.Elements.{differs as differsAt, first_differing, found_in}
use Rattle.compare.specs.Equal.{FirstDifference, Says as FoundSays}
use Rattle.compare.proofs.TestLaws.{first_is}
use Rattle.compare.proofs.ListLaws.{found_says}
use Rattle.supplier.specs.CheckAnswer.{CheckAnswer, Accepted, Entry as EntryDiffers, Entries}
use Rattle.supplier.specs.Check.{begun, run_from_reset, meant_from, lowest_quadword, lowest_instruction, lowest_entry, difference, judged, Checked, check_sheet, check_of}
use Rattle.supplier.specs.Claims.{Equal, Differs, quadword, instruction, entry, number, Matches, Says, matches, refused_entry, refused_sheet, stopped, differs}
use Rattle.supplier.proofs.EntryLaws.{entry_first, other_number, entries_same, same_entries}
use Rattle.supplier.proofs.RunLaws.{lent_fits, left_fits}

-- ---- a memory and the one that is meant

module _ (size n : ℕ) (a b : List ℕ) (some : 0 < size) (few : size * n ≤ log_most) (la : length a ≡ size * n) (lb : length b ≡ size * n) where
  abbrev first : ℕ
  first = first_differing size a b n

  found : FoundSays size a b n (found_in size a b n)
  found = found_says size a b n some (record { small = few; left = omega arith; right = omega arith })

  first_most : first ≤ n
  first_most = (first_is (differsAt size a b) n).inside

  first_lower : first < n → FirstDifference size a b n first
  unfolding found_in
  first_lower l = found.first (λ z. let e = found.end.1 (found.none.0 z) in omega arith)

  first_same : n ≤ first → a ≡ b
  unfolding found_in
  first_same l =
      let m = first_most in
      let e : first ≡ n = omega arith in
      sym (take_all (size * n) a (omega arith)) ∙ found.end.0 e ∙ take_all (size * n) b (omega arith)

  same_first : a ≡ b → n ≤ first
  unfolding found_in
  same_first e = let q = found.end.1 (ap (take (size * n)) e) in omega arith

-- ---- what a run left beside a meaning

data Told (r : Ran) (x : Plain) : CheckAnswer → Type 0 where
  equal : Equal r x → Told r x Accepted
  unequal : {a : CheckAnswer} → Differs r x a → Told r x a

module _ (r : Ran) (x : Plain) (f : LengthsFit Vif1 r.after.memories r.after.state.used) (xm : length x.mem ≡ data_words Vif1)
    (xc : length x.code ≡ code_bytes Vif1) where
  abbrev used : ℕ
  used = r.after.state.used

  abbrev entries : List Entry
  entries = entries_in r.after.memories.log used

  count : length entries ≡ used
  count = in_count r.after.memories.log used (log_fits r.after.memories.log used f.logged).holds

  module _ (mem : r.after.memories.mem ≡ x.mem) (code : r.after.memories.code ≡ x.code) where
    not_both : (ltb (lowest_entry r.after.memories used x) used && ltb (lowest_entry r.after.memories used x) (length x.entries)) ≡ false
        → (leading x.entries entries < length entries) × (leading x.entries entries < length x.entries)
        → ⊥
    not_both t h =
        let c = count in
        let a = h.0 in
        let l = lt-ltb (leading x.entries entries) used (omega arith) in
        let k = lt-ltb (leading x.entries entries) (length x.entries) h.1 in
        let z : ◌≡◌ {A = ℕ} 0 1 = (let y : false ≡ true = sym t ∙ rw (l, k) in cc) in
        omega arith

    entries_told : Told r x
        (if (ltb (lowest_entry r.after.memories used x) used && ltb (lowest_entry r.after.memories used x) (length x.entries))
        (EntryDiffers (lowest_entry r.after.memories used x))
        (if (not (eqb used (length x.entries))) (Entries used) Accepted))
    entries_told =
        if_ind_by (Told r x) _
        (λ t.
        let l = ltb-true (leading x.entries entries) used (and_left _ _ t) in
        let k = ltb-true (leading x.entries entries) (length x.entries) (and_right (ltb (leading x.entries entries) used) _ t) in
        unequal (entry mem code (entry_first entries x.entries (omega (arith, count, l)) k)))
        (λ t.
        if_ind_by (Told r x) (not (eqb used (length x.entries)))
        (λ s.
        let n = eqb-false used (length x.entries) (not-true _ s) in
        unequal (number mem code (sym count) (other_number entries x.entries (not_both t) (λ e. n (sym count ∙ e)))))
        (λ s.
        let n = eqb-true used (length x.entries) (not-false _ s) in
        equal (record { mem = mem; code = code; entries = entries_same entries x.entries (not_both t) (count ∙ n) })))

  told : Told r x (difference r.after.memories used x)
  unfolding difference
  told =
      if_ind_by (Told r x) _
      (λ t. unequal (quadword (first_lower 4 (quadwords Vif1) _ _ (omega arith) (omega arith) f.long xm (ltb-true _ _ t))))
      (λ t.
      let mem = first_same 4 (quadwords Vif1) _ _ (omega arith) (omega arith) f.long xm (ltb-false _ _ t) in
      if_ind_by (Told r x) _
      (λ s. unequal (instruction mem (first_lower 8 (instructions Vif1) _ _ (omega arith) (omega arith) f.wide xc (ltb-true _ _ s))))
      (λ s. entries_told mem (first_same 8 (instructions Vif1) _ _ (omega arith) (omega arith) f.wide xc (ltb-false _ _ s))))

  -- what is equal is accepted
  equal_accepted : Equal r x → difference r.after.memories used x ≡ Accepted
  unfolding difference if
  equal_accepted e =
      let c = count in
      let k = same_entries entries x.entries e.entries in
      let n : used ≡ length x.entries = sym count ∙ ap length e.entries in
      rw (
        le-ltb (lowest_quadword r.after.memories x) (quadwords Vif1) (same_first 4 (quadwords Vif1) _ _ (omega arith) (omega arith) f.long xm e.mem),
        le-ltb (lowest_instruction r.after.memories x) (instructions Vif1) (same_first 8 (instructions Vif1) _ _ (omega arith) (omega arith) f.wide xc e.code),
        le-ltb (lowest_entry r.after.memories used x) used (omega arith),
        eq-eqb used (length x.entries) n,
      )

-- ---- the check

-- a run that is done passed its entry tests
done_entered : (main : List ℕ) (allowance : ℕ) (s : State) (m : Lent) → (run_of main allowance s m).answer ≡ Done → entry_refusal main m s ≡ 0
unfolding run_of
done_entered main allowance s m h =
    if_ind_by (λ (r : Ran). r.answer ≡ Done → entry_refusal main m s ≡ 0) (eqb (entry_refusal main m s) 0) (λ t q. eqb-true (entry_refusal main m s) 0 t)
    (λ t q. absurd (let z : ◌≡◌ {A = ℕ} 0 1 = cc in omega arith)) h

module _ (sheet main : List ℕ) (m : Lent) (allowance : ℕ) where
  abbrev run : Ran
  run = run_from_reset main allowance m

  -- ---- what it says

  module _ (rs : List Record) (contents : contents_of sheet ≡ valid rs) (entered : entry_refusal main m begun ≡ 0) where
    abbrev meant : Plain
    meant = meant_from rs m.mem m.code

    meant_mem : length meant.mem ≡ data_words Vif1
    meant_mem = (meaning_kept rs (plain m.mem m.code [])).0 ∙ (lent_fits main m entered).long

    meant_code : length meant.code ≡ code_bytes Vif1
    meant_code = (meaning_kept rs (plain m.mem m.code [])).1 ∙ (lent_fits main m entered).wide

    told_says : run.answer ≡ Done → {a : CheckAnswer} → Told run meant a → Says sheet main m allowance a
    told_says d (equal e) = matches (record { records = rs; accepted = contents; ended = d; equal = e })
    told_says d (unequal e) = differs rs contents d e

    answer_says : (a : Answer) → run.answer ≡ a → Says sheet main m allowance (judged a run.after.memories run.after.state.used meant)
    answer_says Done e = told_says e (told run meant (left_fits main m entered allowance) meant_mem meant_code)
    answer_says Allowance e = stopped rs entered contents e (λ z. absurd (let y : ◌≡◌ {A = ℕ} 0 1 = cc in omega arith))
    answer_says Interrupt e = stopped rs entered contents e (λ z. absurd (let y : ◌≡◌ {A = ℕ} 0 1 = cc in omega arith))
    answer_says (RunRefused n) e = stopped rs entered contents e (λ z. absurd (let y : ◌≡◌ {A = ℕ} 0 1 = cc in omega arith))

    equal_checked : run.answer ≡ Done → Equal run meant → (check_of sheet main m allowance).answer ≡ Accepted
    unfolding check_of if
    equal_checked d e = rw (entered, contents, d) (equal_accepted run meant (left_fits main m entered allowance) meant_mem meant_code e)

  contents_say : (c : Contents) → contents_of sheet ≡ c → entry_refusal main m begun ≡ 0 → Says sheet main m allowance (check_sheet c main m allowance).answer
  contents_say (valid rs) e z = answer_says rs e z run.answer refl
  contents_say (refused n offset) e z = refused_sheet z e

  -- what is named is the first difference, and does differ
  pub first_difference_lem : Says sheet main m allowance (check_of sheet main m allowance).answer
  unfolding check_of
  first_difference_lem =
      if_ind_by (λ (c : Checked). Says sheet main m allowance c.answer) (eqb (entry_refusal main m begun) 0)
      (λ t. contents_say (contents_of sheet) refl (eqb-true (entry_refusal main m begun) 0 t))
      (λ t. refused_entry refl (eqb-false (entry_refusal main m begun) 0 t))

  -- ---- accepted exactly if

  says_accepted : {a : CheckAnswer} → Says sheet main m allowance a → a ≡ Accepted → Matches sheet main m allowance
  says_accepted (matches w) e = w
  says_accepted (refused_entry q z) e = absurd (let y : ◌≡◌ {A = ℕ} 0 1 = cc in omega arith)
  says_accepted (refused_sheet z q) e = absurd (let y : ◌≡◌ {A = ℕ} 0 1 = cc in omega arith)
  says_accepted (stopped rs n c q z) e = absurd (let y : ◌≡◌ {A = ℕ} 0 1 = cc in omega arith)
  says_accepted (differs rs c d (quadword f)) e = absurd (let y : ◌≡◌ {A = ℕ} 0 1 = cc in omega arith)
  says_accepted (differs rs c d (instruction p f)) e = absurd (let y : ◌≡◌ {A = ℕ} 0 1 = cc in omega arith)
  says_accepted (differs rs c d (entry p q f)) e = absurd (let y : ◌≡◌ {A = ℕ} 0 1 = cc in omega arith)
  says_accepted (differs rs c d (number p q n f)) e = absurd (let y : ◌≡◌ {A = ℕ} 0 1 = cc in omega arith)

  matches_accepted : Matches sheet main m allowance → (check_of sheet main m allowance).answer ≡ Accepted
  matches_accepted w = equal_checked w.records w.accepted (done_entered main allowance begun m w.ended) w.ended w.equal

  pub accepted_exactly : ((check_of sheet main m allowance).answer ≡ Accepted) ↔ Matches sheet main m allowance
  accepted_exactly = (λ e. says_accepted first_difference_lem e, matches_accepted)

  -- what is accepted is told with the run's counts and entries used
  pub matches_run : Matches sheet main m allowance
      → ((check_of sheet main m allowance).counts.steps ≡ run.counts.steps) × ((check_of sheet main m allowance).used ≡ run.after.state.used)
  unfolding check_of if
  matches_run w = rw (done_entered main allowance begun m w.ended, w.accepted) (refl, refl)

-- What the check's functions answer.
use Rattle.std.specs.Prelude.{Result, Ok, Err}
use Rattle.std.specs.Result.{IsErrAnd}
use Rattle.std.proofs.lemmas.Result.{err_from_is_err_and}
use mathlib.Core.Path.{◌≡◌, refl, sym, ap, ◌∙◌}
use mathlib.Core.Bool.{false, ◌&&◌}
use mathlib.Core.Logic.{◌⊎◌, inl, inr}
use mathlib.Core.List.{List}
use Prim.Native.Nat.{ℕ, ◌<◌, ◌≤◌}
use native.Mathlib.Omega.{arith}
use borrow.Author.Tests.{lt-ltb, le-ltb, ne_eqb}
use lib.ListN.{length}
use lib.Dec.{ltb}
use Rattle.fields.specs.declared.refusals.Refusal.{Refusal}
use Rattle.fields.specs.Fields.{if}
use Rattle.fields.specs.Refusals.{refusal_number}
use Rattle.fields.proofs.RefusalLaws.{refusal_small}
use Rattle.gif.specs.Log.{entries_in}
use Rattle.memories.specs.declared.VifUnit.{VifUnit}
use Rattle.memories.specs.declared.VifUnit.TheVariants.{Vif0, Vif1}
use Rattle.memories.specs.Units.{quadwords, instructions, data_words, code_bytes}
use Rattle.memories.specs.Lengths.{Lent, lent, LengthsFit}
use Rattle.memories.proofs.LengthLaws.{fit_lengths}
use Rattle.chain.specs.Answer.{Answer, Done, Allowance, Interrupt, Refused as RunRefused, run_answer}
use Rattle.chain.specs.declared.RunResult.{RunResult}
use Rattle.chain_state.specs.declared.State.{State}
use Rattle.chain_state.specs.Range.{entry_refusal}
use Rattle.chain.specs.Run.{left_by, run_of}
use Rattle.sheet.specs.declared.Front.{Front}
use Rattle.sheet.specs.declared.SheetError.{SheetError}
use Rattle.sheet.specs.MatchAnswer.{MatchAnswer, Matched, match_answer}
use Rattle.sheet.specs.StepsAnswer.{StepsAnswer, Steps, Refused as StepsRefused, steps_answer}
use Rattle.sheet.specs.Records.{Record}
use Rattle.sheet.specs.Reader.{Contents, valid, refused}
use Rattle.sheet.specs.Editions.{contents_of}
use Rattle.sheet.specs.Results.{steps_in, steps_of_sheet}
use Rattle.sheet.specs.Meaning.{Plain}
use Rattle.sheet.specs.Match.{Left, left, left_beside, match_of_sheet}
use Rattle.conformance.specs.Demand.{records_in, records_of}
use Rattle.compare.specs.declared.Comparison.{Comparison}
use Rattle.compare.specs.CompareAnswer.{Compared, compare_answer}
use Rattle.compare.specs.Elements.{first_differing, found_in}
use Rattle.compare.specs.Parts.{data_part, code_part, asks, looked_at, Asked}
use Rattle.compare.specs.Boards.{memories, Board, board, memories_of, unit_found, comparison_of, compare_of}
use Rattle.compare.specs.Equal.{Whole}
use Rattle.compare.proofs.TestLaws.{never}
use Rattle.compare.proofs.Verdict.{whole_compared}
use Rattle.supplier.specs.CheckAnswer.{CheckAnswer}
use Rattle.supplier.specs.Check.{begun, run_from_reset, meant_from, difference, judged, Checked, checked, check_ran, check_refused, check_of}
use Rattle.supplier.specs.Inner.{entries_difference, first_difference, Beside, Judges, Judgement, judgement, judged_done, judged_by, Runs, Tested}
use Rattle.supplier.proofs.RunLaws.{lent_fits, left_fits}

-- ---- the entries

-- there is no entry that both have and that differs
pub not_both : {same used meant : ℕ} → (same < used) × (meant ≤ same) ⊎ (used ≤ same) → (ltb same used && ltb same meant) ≡ false
not_both {same} {used} {meant} (inl h) = rw (lt-ltb same used h.0, le-ltb same meant h.1)
not_both {same} {used} {meant} (inr h) = rw (le-ltb same used h)

-- ---- the memories compared

-- both of VIF1's memories are asked for, and no more
abbrev memory_parts : ℕ
memory_parts = 3

abbrev side_of : List ℕ → List ℕ → List ℕ → Board
side_of mem code log = board (memories mem code) (memories mem code) log 0

module _ (mem code log : List ℕ) (words : length mem ≡ data_words Vif1) (bytes : length code ≡ code_bytes Vif1) where
  data_whole : (u : VifUnit) → Asked memory_parts (data_part u) → length (memories_of u (side_of mem code log)).mem ≡ data_words u
  unfolding asks
  data_whole Vif1 h = words
  data_whole Vif0 h = absurd (never h refl)

  code_whole : (u : VifUnit) → Asked memory_parts (code_part u) → length (memories_of u (side_of mem code log)).code ≡ code_bytes u
  unfolding asks
  code_whole Vif1 h = bytes
  code_whole Vif0 h = absurd (never h refl)

  memories_whole : Whole memory_parts (side_of mem code log)
  unfolding asks
  memories_whole = record { words = data_whole; bytes = code_whole; log = λ h. absurd (never h refl) }

module _ {mem code words bytes : List ℕ} (b : Beside mem code words bytes) (log : List ℕ) where
  compared : compare_of memory_parts (side_of mem code log) (side_of words bytes log)
      ≡ Compared (comparison_of memory_parts (side_of mem code log) (side_of words bytes log))
  compared =
      whole_compared memory_parts (side_of mem code log) (side_of words bytes log)
      (record { some = omega arith; most = omega arith }) (memories_whole mem code log b.mem_size b.code_size)
      (memories_whole words bytes log b.words_size b.bytes_size)

  pub compare_never : (e : Refusal) → compare_answer (Err e) ≡ compare_of memory_parts (side_of mem code log) (side_of words bytes log) → ⊥
  compare_never e q = let p = compared in let z : ◌≡◌ {A = ℕ} 0 1 = cc in omega arith

  pub compare_first : {c : Comparison} → compare_answer (Ok c) ≡ compare_of memory_parts (side_of mem code log) (side_of words bytes log)
      → (c.vif1.quadwords.first ≡ first_differing 4 mem words (quadwords Vif1)) × (c.vif1.instructions.first ≡ first_differing 8 code bytes (instructions Vif1))
  unfolding comparison_of unit_found found_in looked_at asks if
  compare_first {c} q =
      let p : comparison_of memory_parts (side_of mem code log) (side_of words bytes log) ≡ c = same (sym compared ∙ sym q) in
      (ap (λ (k : Comparison). k.vif1.quadwords.first) (sym p), ap (λ (k : Comparison). k.vif1.instructions.first) (sym p))
    where
      same : {k l : Comparison} → Compared k ≡ Compared l → k ≡ l
      same h = cc

-- ---- a run that is done

module _ {sheet words bytes : List ℕ} {m : Lent} {used : ℕ} (j : Judges sheet m used words bytes) where
  abbrev meant : Plain
  meant = meant_from (records_of sheet) words bytes

  matched : {a : MatchAnswer} {words' bytes' : List ℕ} → left a words' bytes' ≡ match_of_sheet sheet words bytes m.log used → left a words' bytes' ≡ left_beside meant (entries_in m.log used)
  unfolding match_of_sheet if
  matched e = e ∙ rw (j.lengths, j.accepted)

  pub match_never : {words' bytes' : List ℕ} (e : SheetError) → left (match_answer (Err e)) words' bytes' ≡ match_of_sheet sheet words bytes m.log used → ⊥
  match_never e q = let p = ap (λ (l : Left). l.answer) (matched q) in let z : ◌≡◌ {A = ℕ} 0 1 = cc in omega arith

  pub done_judged : {words' bytes' : List ℕ} (f : Front) → left (match_answer (Ok f)) words' bytes' ≡ match_of_sheet sheet words bytes m.log used → {r : CheckAnswer}
      → r ≡ first_difference (first_differing 4 m.mem words' (quadwords Vif1)) (first_differing 8 m.code bytes' (instructions Vif1)) f.leading used f.entries
      → judgement r words' bytes' ≡ judged_done m used meant
  unfolding difference first_difference entries_difference
  done_judged {words'} {bytes'} f q d =
      let k = matched q in
      let w : words' ≡ meant.mem = ap (λ (l : Left). l.mem) k in
      let b : bytes' ≡ meant.code = ap (λ (l : Left). l.code) k in
      let p = same (ap (λ (l : Left). l.answer) k) in
      rw (d, w, b, p.0, p.1)
    where
      same : {k l n m : ℕ} → Matched k n ≡ Matched l m → (k ≡ l) × (n ≡ m)
      same h = (cc, cc)

-- ---- a valid sheet

judged_answer : (a : Answer) (m : Lent) (used : ℕ) (words bytes : List ℕ) (rs : List Record)
    → (judged_by a m used words bytes rs).answer ≡ judged a m used (meant_from rs words bytes)
judged_answer Done m used words bytes rs = refl
judged_answer Allowance m used words bytes rs = refl
judged_answer Interrupt m used words bytes rs = refl
judged_answer (RunRefused n) m used words bytes rs = refl

module _ {sheet main : List ℕ} {m : Lent} {words bytes : List ℕ} (w : Runs sheet main m) (same_words : words ≡ m.mem) (same_bytes : bytes ≡ m.code)
    (allowance : ℕ) {s : State} (b : s ≡ begun) (r : RunResult) {m' : Lent} (e : left_by r m' ≡ run_of main allowance s m) where
  ran_is : left_by r m' ≡ run_from_reset main allowance m
  ran_is = e ∙ rw b

  -- what is given to the verdict: copies of the memories before the run, and what it left
  pub ran_judges : Judges sheet m' r.state.used words bytes
  ran_judges =
      let f = lent_fits main m w.entered in
      let g : LengthsFit Vif1 m' r.state.used = rw (← ran_is) at (left_fits main m w.entered allowance) in
      let lw = ap length same_words ∙ f.long in
      let lb = ap length same_bytes ∙ f.wide in
      record {
        sizes = record { mem_size = g.long; code_size = g.wide; words_size = lw; bytes_size = lb };
        accepted = w.accepted;
        lengths = fit_lengths Vif1 (lent words bytes m'.log) r.state.used (record { long = lw; wide = lb; logged = g.logged });
      }

  -- and what it answers
  pub ran_checked : {a : CheckAnswer} {words' bytes' : List ℕ} → judgement a words' bytes' ≡ judged_by (run_answer r.answer) m' r.state.used words bytes (records_of sheet)
      → checked a r.state.used r.counts m' ≡ check_ran (run_from_reset main allowance m) (meant_from (records_of sheet) m.mem m.code)
  ran_checked j =
      let q = ap (λ (x : Judgement). x.answer) j ∙ judged_answer (run_answer r.answer) m' r.state.used words bytes (records_of sheet) in
      rw (← ran_is, ← same_words, ← same_bytes, q)

-- ---- refusals

-- the entry refusals come first
pub check_entry : (sheet main : List ℕ) (m : Lent) (allowance : ℕ) {n : ℕ} {s : State} → s ≡ begun → n ≡ entry_refusal main m s → (n ≡ 0 → ⊥)
    → check_refused n 0 m ≡ check_of sheet main m allowance
unfolding check_of if
check_entry sheet main m allowance {n} b e z = let q : n ≡ entry_refusal main m begun = e ∙ rw b in rw (← q, ne_eqb n 0 z)

steps_refused : (c : Contents) {a : StepsAnswer} {n offset : ℕ} → a ≡ steps_in c → a ≡ StepsRefused n offset → c ≡ refused n offset
steps_refused (valid rs) e q = absurd (let z : ◌≡◌ {A = ℕ} 0 1 = cc in omega arith)
steps_refused (refused n offset) e q = cc

steps_valid : (c : Contents) {a : StepsAnswer} {n : ℕ} → a ≡ steps_in c → a ≡ Steps n → c ≡ valid (records_in c)
steps_valid (valid rs) e q = refl
steps_valid (refused n offset) e q = absurd (let z : ◌≡◌ {A = ℕ} 0 1 = cc in omega arith)

module _ (sheet main : List ℕ) (m : Lent) {n : ℕ} {s : State} (b : s ≡ begun) (e : n ≡ entry_refusal main m s) (z : n ≡ 0) {a : StepsAnswer} (g : a ≡ steps_of_sheet sheet) where
  entry_passed : entry_refusal main m begun ≡ 0
  entry_passed = rw (← b) (sym e ∙ z)

  pub check_runs : {k : ℕ} → a ≡ Steps k → Runs sheet main m
  unfolding records_of
  check_runs q = record { accepted = steps_valid (contents_of sheet) g q; entered = entry_passed }

-- then the sheet's
pub check_sheet_lem : (sheet main : List ℕ) (m : Lent) (allowance : ℕ) {n : ℕ} {s : State} → s ≡ begun → n ≡ entry_refusal main m s → n ≡ 0 → {a : StepsAnswer}
    → a ≡ steps_of_sheet sheet
    → {k offset : ℕ}
    → a ≡ StepsRefused k offset
    → check_refused k offset m ≡ check_of sheet main m allowance
unfolding check_of if
check_sheet_lem sheet main m allowance b e z g q = rw (entry_passed sheet main m b e z g, steps_refused (contents_of sheet) g q)

-- ---- what is tested before the run

-- a refusal is the whole answer
refuses : {sheet main : List ℕ} {m : Lent} {r : Result ℕ SheetError} (e : SheetError) → r ≡ Err e
    → ((allowance : ℕ) → check_refused (refusal_number e.refusal) e.offset m ≡ check_of sheet main m allowance)
    → Tested r sheet main m
refuses e q h =
    record {
      refused = λ x p allowance. (let z : x ≡ e = cc in rw z (h allowance));
      passed = λ n p. absurd (let z : ◌≡◌ {A = ℕ} 0 1 = cc in omega arith);
    }

pub tested_entry : (sheet main : List ℕ) (m : Lent) (e : Refusal) → refusal_number e ≡ entry_refusal main m begun → {r : Result ℕ SheetError}
    → IsErrAnd r (λ x. x ≡ record { refusal = e; offset = 0 })
    → Tested r sheet main m
tested_entry sheet main m e q {r} p =
    let x = err_from_is_err_and r p in
    let h = refusal_small e in
    refuses (record { refusal = e; offset = 0 }) (rw x.2 at x.1) (λ allowance. check_entry sheet main m allowance refl q (λ k. omega arith))

pub tested_sheet : (sheet main : List ℕ) (m : Lent) → 0 ≡ entry_refusal main m begun → (r : Result ℕ SheetError) → steps_answer r ≡ steps_of_sheet sheet
    → Tested r sheet main m
tested_sheet sheet main m z (Ok n) q =
    record {
      refused = λ e p allowance. absurd (let z : ◌≡◌ {A = ℕ} 0 1 = cc in omega arith);
      passed = λ n p. check_runs sheet main m refl z refl q refl;
    }
tested_sheet sheet main m z (Err e) q = refuses e refl (λ allowance. check_sheet_lem sheet main m allowance refl z refl q refl)

-- what runs is checked by the run
pub check_ran_lem : {sheet main : List ℕ} {m : Lent} → Runs sheet main m → (allowance : ℕ) → {x : Checked}
    → x ≡ check_ran (run_from_reset main allowance m) (meant_from (records_of sheet) m.mem m.code)
    → x ≡ check_of sheet main m allowance
unfolding check_of if
check_ran_lem r allowance h = rw (r.entered, r.accepted) h

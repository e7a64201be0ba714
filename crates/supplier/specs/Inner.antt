-- What inner functions require of their input, and what they make of it; no promise of a public function cites them.
use Rattle.std.specs.Prelude.{ℕ, not, ◌&&◌, ◌≡◌, List, length, eqb, ltb, Result, Ok, Err}
use Rattle.fields.specs.Fields.{if}
use Rattle.fields.specs.Refusals.{refusal_number}
use Rattle.memories.specs.declared.VifUnit.TheVariants.{Vif1}
use Rattle.memories.specs.Units.{quadwords, instructions, data_words, code_bytes}
use Rattle.memories.specs.Lengths.{Lent, lent}
use Rattle.chain.specs.Answer.{Answer, Done, Allowance, Interrupt, Refused as RunRefused}
use Rattle.chain_state.specs.Range.{entry_refusal}
use Rattle.sheet.specs.declared.SheetError.{SheetError}
use Rattle.sheet.specs.Records.{Record}
use Rattle.sheet.specs.Reader.{valid}
use Rattle.sheet.specs.Editions.{contents_of}
use Rattle.sheet.specs.Meaning.{Plain}
use Rattle.sheet.specs.Results.{length_refusal}
use Rattle.conformance.specs.Demand.{records_of}
use Rattle.supplier.specs.CheckAnswer.{CheckAnswer, Accepted, Stopped, Quadword, Instruction, Entry, Entries}
use Rattle.supplier.specs.declared.judging.After.{After}
use Rattle.supplier.specs.Check.{begun, meant_from, difference, check_refused, check_of}

-- the first difference by numbers: how many entries are the same of those that the run has and of those that are meant
unfoldable pub entries_difference : ℕ → ℕ → ℕ → CheckAnswer
entries_difference same used meant =
    if (ltb same used && ltb same meant) (Entry same)
    (if (not (eqb used meant)) (Entries used)
    Accepted)

-- and before them the lowest quadword and instruction that differ
unfoldable pub first_difference : ℕ → ℕ → ℕ → ℕ → ℕ → CheckAnswer
first_difference q i same used meant =
    if (ltb q (quadwords Vif1)) (Quadword q)
    (if (ltb i (instructions Vif1)) (Instruction i)
    (entries_difference same used meant))

-- memories that a run left, and those that a sheet means
pub record Beside (mem code words bytes : List ℕ) : Type 0 where
  pub mem_size : length mem ≡ data_words Vif1
  pub code_size : length code ≡ code_bytes Vif1
  pub words_size : length words ≡ data_words Vif1
  pub bytes_size : length bytes ≡ code_bytes Vif1

-- what a run left, as it is lent
abbrev pub after_now : After → Lent
after_now a = lent a.memories.«data».now a.memories.code.now a.log.now

-- what a run left beside a valid sheet, and copies of the memories before it
pub record Judges (sheet : List ℕ) (m : Lent) (used : ℕ) (words bytes : List ℕ) : Type 0 where
  pub sizes : Beside m.mem m.code words bytes
  pub accepted : contents_of sheet ≡ valid (records_of sheet)
  pub lengths : length_refusal words bytes m.log used ≡ 0

-- what is left: the answer and the copies, fed the sheet where the run is done
pub record Judgement : Type 0 where
  pub answer : CheckAnswer
  pub mem : List ℕ
  pub code : List ℕ

abbrev pub judgement : CheckAnswer → List ℕ → List ℕ → Judgement
judgement a mem code = record { answer = a; mem = mem; code = code }

abbrev pub judged_done : Lent → ℕ → Plain → Judgement
judged_done m used x = judgement (difference m used x) x.mem x.code

abbrev pub judged_by : Answer → Lent → ℕ → List ℕ → List ℕ → List Record → Judgement
judged_by Done m used words bytes rs = judged_done m used (meant_from rs words bytes)
judged_by Allowance m used words bytes rs = judgement (Stopped Allowance) words bytes
judged_by Interrupt m used words bytes rs = judgement (Stopped Interrupt) words bytes
judged_by (RunRefused n) m used words bytes rs = judgement (Stopped (RunRefused n)) words bytes

-- a valid sheet, and memories that a run accepts
pub record Runs (sheet main : List ℕ) (m : Lent) : Type 0 where
  pub accepted : contents_of sheet ≡ valid (records_of sheet)
  pub entered : entry_refusal main m begun ≡ 0

-- what is tested before the run: a refusal is the whole answer, and else the run is on a valid sheet
pub record Tested (r : Result ℕ SheetError) (sheet main : List ℕ) (m : Lent) : Type 0 where
  pub refused : (e : SheetError) → r ≡ Err e → (allowance : ℕ) → check_refused (refusal_number e.refusal) e.offset m ≡ check_of sheet main m allowance
  pub passed : (n : ℕ) → r ≡ Ok n → Runs sheet main m

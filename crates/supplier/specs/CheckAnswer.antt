-- What a check says in the papers' words.
use Rattle.std.specs.Prelude.{ℕ, Result, Ok, Err}
use Rattle.fields.specs.Refusals.{refusal_number}
use Rattle.sheet.specs.declared.SheetError.{SheetError}
use Rattle.chain.specs.Answer.{Answer, run_answer}
use Rattle.supplier.specs.declared.Verdict.{Verdict}
use Rattle.supplier.specs.declared.Verdict.TheVariants.{Accepted as VerdictAccepted, Stopped as VerdictStopped, Quadword as VerdictQuadword, Instruction as VerdictInstruction, Entry as VerdictEntry, Entries as VerdictEntries}

pub data CheckAnswer : Type 0 where
  Accepted : CheckAnswer
  Refused : ℕ → ℕ → CheckAnswer
  Stopped : Answer → CheckAnswer
  Quadword : ℕ → CheckAnswer
  Instruction : ℕ → CheckAnswer
  Entry : ℕ → CheckAnswer
  Entries : ℕ → CheckAnswer

abbrev pub verdict_answer : Verdict → CheckAnswer
verdict_answer VerdictAccepted = Accepted
verdict_answer (VerdictStopped a) = Stopped (run_answer a)
verdict_answer (VerdictQuadword n) = Quadword n
verdict_answer (VerdictInstruction n) = Instruction n
verdict_answer (VerdictEntry n) = Entry n
verdict_answer (VerdictEntries n) = Entries n

abbrev pub check_answer : Result Verdict SheetError → CheckAnswer
check_answer (Ok v) = verdict_answer v
check_answer (Err e) = Refused (refusal_number e.refusal) e.offset

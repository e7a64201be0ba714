-- The entries used afterwards, or a refusal, by number, with the record's offset.
use Rattle.std.specs.Prelude.{ℕ, Result, Ok, Err}
use Rattle.fields.specs.Refusals.{refusal_number}
use Rattle.sheet.specs.declared.SheetError.{SheetError}

pub data MeaningAnswer : Type 0 where
  Meant : ℕ → MeaningAnswer
  Refused : ℕ → ℕ → MeaningAnswer

abbrev pub meaning_answer : Result ℕ SheetError → MeaningAnswer
meaning_answer (Ok n) = Meant n
meaning_answer (Err e) = Refused (refusal_number e.refusal) e.offset

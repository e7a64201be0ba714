-- A sheet's steps, or its refusal, by number, with the record's offset.
use Rattle.std.specs.Prelude.{ℕ, Result, Ok, Err}
use Rattle.fields.specs.Refusals.{refusal_number}
use Rattle.sheet.specs.declared.SheetError.{SheetError}

pub data StepsAnswer : Type 0 where
  Steps : ℕ → StepsAnswer
  Refused : ℕ → ℕ → StepsAnswer

abbrev pub steps_answer : Result ℕ SheetError → StepsAnswer
steps_answer (Ok n) = Steps n
steps_answer (Err e) = Refused (refusal_number e.refusal) e.offset

-- The chain's length in bytes, or a refusal, by number, with the record's offset.
use Rattle.std.specs.Prelude.{ℕ, Result, Ok, Err}
use Rattle.fields.specs.Refusals.{refusal_number}
use Rattle.sheet.specs.declared.SheetError.{SheetError}

pub data BuildAnswer : Type 0 where
  Built : ℕ → BuildAnswer
  Refused : ℕ → ℕ → BuildAnswer

abbrev pub build_answer : Result ℕ SheetError → BuildAnswer
build_answer (Ok n) = Built n
build_answer (Err e) = Refused (refusal_number e.refusal) e.offset

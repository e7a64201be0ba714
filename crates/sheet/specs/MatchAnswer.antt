-- How many entries at the front of the meaning's list and of a log are the same, and how many the meaning has; or a refusal, by number, with the record's offset.
use Rattle.std.specs.Prelude.{ℕ, Result, Ok, Err}
use Rattle.fields.specs.Refusals.{refusal_number}
use Rattle.sheet.specs.declared.SheetError.{SheetError}
use Rattle.sheet.specs.declared.Front.{Front}

pub data MatchAnswer : Type 0 where
  Matched : ℕ → ℕ → MatchAnswer
  Refused : ℕ → ℕ → MatchAnswer

abbrev pub match_answer : Result Front SheetError → MatchAnswer
match_answer (Ok f) = Matched f.leading f.entries
match_answer (Err e) = Refused (refusal_number e.refusal) e.offset

-- What a comparison says, or its refusal, by number.
use Rattle.std.specs.Prelude.{ℕ, Result, Ok, Err}
use Rattle.fields.specs.declared.refusals.Refusal.{Refusal}
use Rattle.fields.specs.Refusals.{refusal_number}
use Rattle.compare.specs.declared.Comparison.{Comparison}

pub data CompareAnswer : Type 0 where
  Compared : Comparison → CompareAnswer
  Refused : ℕ → CompareAnswer

abbrev pub compare_answer : Result Comparison Refusal → CompareAnswer
compare_answer (Ok c) = Compared c
compare_answer (Err e) = Refused (refusal_number e)

-- The bytes and ranges written, or a refusal, by number.
use Rattle.std.specs.Prelude.{ℕ, Result, Ok, Err}
use Rattle.fields.specs.declared.refusals.Refusal.{Refusal}
use Rattle.fields.specs.Refusals.{refusal_number}
use Rattle.salvage.specs.declared.Sums.{Sums}

pub data SalvageAnswer : Type 0 where
  Salvaged : ℕ → ℕ → SalvageAnswer
  Refused : ℕ → SalvageAnswer

abbrev pub salvage_answer : Result Sums Refusal → SalvageAnswer
salvage_answer (Ok s) = Salvaged s.bytes s.ranges
salvage_answer (Err e) = Refused (refusal_number e)

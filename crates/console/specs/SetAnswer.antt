-- What the console is told in the papers' words: set, or refused, by number.
use Rattle.std.specs.Prelude.{ℕ, Result, Ok, Err}
use Rattle.fields.specs.declared.refusals.Refusal.{Refusal}
use Rattle.fields.specs.Refusals.{refusal_number}

pub data SetAnswer : Type 0 where
  Set : SetAnswer
  Refused : ℕ → SetAnswer

abbrev pub set_answer : {A : Type 0} → Result A Refusal → SetAnswer
set_answer (Ok x) = Set
set_answer (Err e) = Refused (refusal_number e)

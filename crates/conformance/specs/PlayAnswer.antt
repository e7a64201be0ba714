-- How a run ended, or the refusal before it, by number, with the record's offset.
use Rattle.std.specs.Prelude.{ℕ, Result, Ok, Err}
use Rattle.fields.specs.Refusals.{refusal_number}
use Rattle.chain.specs.declared.Ending.{Ending}
use Rattle.chain.specs.Answer.{Answer, run_answer}
use Rattle.conformance.specs.declared.PlayError.{PlayError}
use Rattle.conformance.specs.declared.PlayError.TheVariants.{Sheet, Run}

pub data PlayAnswer : Type 0 where
  Ended : Answer → PlayAnswer
  Refused : ℕ → ℕ → PlayAnswer

abbrev pub play_answer : Result Ending PlayError → PlayAnswer
play_answer (Ok e) = Ended (run_answer (Ok e))
play_answer (Err (Run r)) = Ended (run_answer (Err r))
play_answer (Err (Sheet e)) = Refused (refusal_number e.refusal) e.offset

-- The answer of a run in the papers' words: done, the allowance used, an interrupt mark, or refused, by number.
use Rattle.std.specs.Prelude.{ℕ, Result, Ok, Err}
use Rattle.fields.specs.declared.refusals.Refusal.{Refusal}
use Rattle.fields.specs.Refusals.{refusal_number}
use Rattle.chain.specs.declared.Ending.{Ending}
use Rattle.chain.specs.declared.Ending.TheVariants.{Done as EndingDone, Allowance as EndingAllowance, Interrupt as EndingInterrupt}

pub data Answer : Type 0 where
  Done : Answer
  Allowance : Answer
  Interrupt : Answer
  Refused : ℕ → Answer

abbrev pub run_answer : Result Ending Refusal → Answer
run_answer (Ok EndingDone) = Done
run_answer (Ok EndingAllowance) = Allowance
run_answer (Ok EndingInterrupt) = Interrupt
run_answer (Err e) = Refused (refusal_number e)

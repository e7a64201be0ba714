-- The answer to a step in the papers' words: completed, and whether that completed a code with its interrupt bit, or refused, by number.
use Rattle.std.specs.Prelude.{ℕ, Bool, Result, Ok, Err}
use Rattle.fields.specs.declared.Counts.{Counts}
use Rattle.fields.specs.declared.refusals.Refusal.{Refusal}
use Rattle.fields.specs.Refusals.{refusal_number}
use Rattle.chain_state.specs.declared.State.{State}
use Rattle.chain.specs.declared.StepResult.{StepResult}

pub data StepAnswer : Type 0 where
  Completed : Bool → StepAnswer
  Refused : ℕ → StepAnswer

abbrev pub step_answer : Result Bool Refusal → StepAnswer
step_answer (Ok i) = Completed i
step_answer (Err e) = Refused (refusal_number e)

-- a step's answer, what it counts for, and the state that it leaves
pub record StateStepped : Type 0 where
  pub answer : StepAnswer
  pub counts : Counts
  pub state : State

abbrev pub state_stepped : StepResult → StateStepped
state_stepped r = record { answer = step_answer r.answer; counts = r.counts; state = r.state }

-- A run: document 01's "Before each step: if the chain has ended and nothing is pending, answer 0 (done); else if the allowance is used, answer 90. After a
-- step that completes a VIF code with its bit 31 set, payload included, answer 91 at once, also where the chain or allowance ends there. The step count is
-- the number of steps completed. A refused step isn't counted." Request 1: "The run hands back the number closed, which equals the number of such quadwords among
-- its completed steps."
use Rattle.std.specs.Prelude.{ℕ, zero, suc, Bool, true, false, ◌&&◌, List, eqb}
use Rattle.fields.specs.declared.Counts.{Counts}
use Rattle.fields.specs.Counts.{none, plus}
use Rattle.fields.specs.Fields.{if}
use Rattle.fields.specs.Refusals.{allowance_used, interrupt_met}
use Rattle.memories.specs.Lengths.{Lent}
use Rattle.chain.specs.Answer.{Answer, Done, Allowance, Interrupt, Refused, run_answer}
use Rattle.chain.specs.StepAnswer.{StepAnswer, Completed, Refused as StepRefused}
use Rattle.chain.specs.declared.RunResult.{RunResult}
use Rattle.chain_state.specs.declared.State.{State}
use Rattle.chain_state.specs.Pending.{nothing_pending}
use Rattle.chain_state.specs.Range.{entry_refusal}
use Rattle.chain.specs.Step.{Machine, machine, Stepped, step_of}

-- the number of an answer
abbrev pub number_of : Answer → ℕ
number_of Done = 0
number_of Allowance = allowance_used
number_of Interrupt = interrupt_met
number_of (Refused n) = n

-- what a run leaves: the answer and its number, the state and the memories, and the counts over its completed steps
pub record Ran : Type 0 where
  pub answer : Answer
  pub number : ℕ
  pub after : Machine
  pub counts : Counts

abbrev pub ran : Answer → State → Counts → Lent → Ran
ran a s c m = record { answer = a; number = number_of a; after = machine s m; counts = c }

abbrev pub left_by : RunResult → Lent → Ran
left_by r m = ran (run_answer r.answer) r.state r.counts m

-- the chain has ended and nothing is pending
unfoldable pub done : State → Bool
done s = s.ended && nothing_pending s

-- a run counted on the way back: what was before it is added
abbrev pub counted : Counts → Ran → Ran
counted c r = record { answer = r.answer; number = r.number; after = r.after; counts = plus c r.counts }

-- by a step's answer; f runs on
abbrev pub after_step : (State → Lent → Ran) → StepAnswer → Stepped → State → Lent → Ran
after_step f (Completed true) x s m = ran Interrupt x.after.state x.counts x.after.memories
after_step f (Completed false) x s m = counted x.counts (f x.after.state x.after.memories)
after_step f (StepRefused n) x s m = ran (Refused n) s none m

abbrev pub on_step : (State → Lent → Ran) → Stepped → State → Lent → Ran
on_step f x s m = after_step f x.answer x s m

-- the steps of a run, by its allowance
unfoldable pub steps_of : List ℕ → ℕ → State → Lent → Ran
steps_of main zero s m = if (done s) (ran Done s none m) (ran Allowance s none m)
steps_of main (suc n) s m = if (done s) (ran Done s none m) (on_step (steps_of main n) (step_of main s m) s m)

-- by the entry refusal n, 0 for none
abbrev pub entered : ℕ → List ℕ → ℕ → State → Lent → Ran
entered n main allowance s m = if (eqb n 0) (steps_of main allowance s m) (ran (Refused n) s none m)

-- a run: the entry tests, then the steps
unfoldable pub run_of : List ℕ → ℕ → State → Lent → Ran
run_of main allowance s m = entered (entry_refusal main m s) main allowance s m

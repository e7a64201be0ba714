-- How a run stops, told by its steps alone: what the theorems about whole runs speak of.
use Rattle.std.specs.Prelude.{ℕ, ◌<◌, ◌≤◌, true, false, List, ◌≡◌}
use Rattle.fields.specs.declared.Counts.{Counts}
use Rattle.fields.specs.Counts.{none, plus}
use Rattle.chain.specs.Answer.{Done, Allowance, Interrupt, Refused}
use Rattle.chain.specs.StepAnswer.{Completed, Refused as StepRefused}
use Rattle.chain.specs.Step.{Machine, Stepped, step_of}
use Rattle.chain.specs.Run.{Ran, done}

-- the step from a machine
abbrev pub step_from : List ℕ → Machine → Stepped
step_from main x = step_of main x.state x.memories

-- completed steps, none of them an interrupt mark and none from a machine that is done, lead from one machine to another; what they count for is added up
pub data Reaches (main : List ℕ) : Counts → Machine → Machine → Type 0 where
  here : {x : Machine} → Reaches main none x x
  step : {c : Counts} {x z : Machine} → done x.state ≡ false → (step_from main x).answer ≡ Completed false → Reaches main c (step_from main x).after z
      → Reaches main (plus (step_from main x).counts c) x z

-- a run of at most n steps from x stops only at the end, at an interrupt mark, at a refusal or at the end of the allowance; its counts are those of the steps
-- completed, and a refused step leaves the machine as those steps left it. A step that is refused would have been allowed
pub data Stops (main : List ℕ) (n : ℕ) (x : Machine) (r : Ran) : Type 0 where
  at_end : r.answer ≡ Done → r.counts.steps ≤ n → Reaches main r.counts x r.after → done r.after.state ≡ true → Stops main n x r
  at_allowance : r.answer ≡ Allowance → r.counts.steps ≡ n → Reaches main r.counts x r.after → done r.after.state ≡ false → Stops main n x r
  at_interrupt : (c : Counts) (y : Machine) → r.answer ≡ Interrupt → r.counts ≡ plus c (step_from main y).counts → r.counts.steps ≤ n → Reaches main c x y → done y.state ≡ false
      → (step_from main y).answer ≡ Completed true → r.after ≡ (step_from main y).after → Stops main n x r
  at_refusal : (c : ℕ) → r.answer ≡ Refused c → r.counts.steps < n → Reaches main r.counts x r.after → done r.after.state ≡ false
      → (step_from main r.after).answer ≡ StepRefused c → Stops main n x r

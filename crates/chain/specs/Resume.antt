-- Request 9: stopping for lunch changes nothing.
use Rattle.std.specs.Prelude.{ℕ, ◌+◌, List, ◌≡◌}
use Rattle.fields.specs.Counts.{none}
use Rattle.memories.specs.Lengths.{Lent}
use Rattle.chain.specs.Answer.{Allowance}
use Rattle.chain_state.specs.declared.State.{State}
use Rattle.chain.specs.Step.{machine}
use Rattle.chain.specs.Run.{Ran, counted, run_of}

-- "a second run with allowance b on what it left ..., with the step and packet counts added": main memory is the same, and the lent memories are those that the
-- first run left, so their lengths are too
abbrev pub resumed : List ℕ → ℕ → Ran → Ran
resumed main b r = counted r.counts (run_of main b r.after.state r.after.memories)

-- for a run with allowance a from any state and on any memories, and any b
pub record ChangesNothing (main : List ℕ) (a b : ℕ) (s : State) (m : Lent) : Type 0 where
  -- "if a run with allowance a answers 90, then a second run with allowance b on what it left gives what one run with a+b gives"
  pub resumes : (run_of main a s m).answer ≡ Allowance → resumed main b (run_of main a s m) ≡ run_of main (a + b) s m
  -- "If the first answers anything else, a run with a+b gives the same as the run with a."
  pub stands : ((run_of main a s m).answer ≡ Allowance → ⊥) → run_of main (a + b) s m ≡ run_of main a s m
  -- "Also: an allowance of 0 changes nothing."
  pub unmoved : (run_of main 0 s m).after ≡ machine s m
  pub uncounted : (run_of main 0 s m).counts ≡ none

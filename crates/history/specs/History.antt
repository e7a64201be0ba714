-- Request 14: "Beneath it must stand a fact over any sequence of runs from one start, each on what the last left"; "Refused and stopped runs are included."
use Rattle.std.specs.Prelude.{ℕ, ◌+◌, ◌*◌, Bool, List, [], ◌++◌, ◌≡◌}
use Rattle.memories.specs.Lengths.{Lent}
use Rattle.chain_state.specs.StartAnswer.{Started}
use Rattle.chain_state.specs.declared.State.{State}
use Rattle.chain_state.specs.Pending.{payload_pending}
use Rattle.chain_state.specs.Start.{start_of}
use Rattle.chain.specs.Run.{run_of}
use Rattle.history.specs.Trace.{Event, trace_of, qwc_read, payload_taken}

-- what was taken since the start, and the state now. "Main memory must not be altered between those runs": it is one
pub data History (main : List ℕ) : List Event → State → Type 0 where
  -- "from one start": of any state, and accepted
  begins : (s : State) (channel tadr : ℕ) (tte : Bool) → (start_of s channel tadr tte).answer ≡ Started → History main [] (start_of s channel tadr tte).state
  -- then a run with any allowance, whatever its answer. The memories lent to it are any at all, those that the last run left among them
  runs : {es : List Event} {s : State} (m : Lent) (allowance : ℕ) → History main es s
      → History main (es ++ trace_of main allowance s m) (run_of main allowance s m).after.state

-- "four times the sum of QWC of the tags read since then equals the payload words taken plus the payload words pending"
pub record Balanced (es : List Event) (s : State) : Type 0 where
  pub balance : 4 * qwc_read es ≡ payload_taken es + payload_pending s.payload

-- Request 14's totals over a history: the counts of each run were added.
use Rattle.std.specs.Prelude.{ℕ, ◌+◌, ◌*◌, Bool, List, [], ◌++◌, ◌≡◌}
use Rattle.fields.specs.Counts.{plus_qwc, total_qwc}
use Rattle.memories.specs.Lengths.{Lent}
use Rattle.chain_state.specs.StartAnswer.{Started}
use Rattle.chain_state.specs.declared.State.{State}
use Rattle.chain_state.specs.Pending.{payload_pending}
use Rattle.chain_state.specs.Start.{start_of}
use Rattle.chain.specs.Run.{run_of}
use Rattle.totals.specs.AddAnswer.{Added}
use Rattle.totals.specs.declared.Totals.{Totals}
use Rattle.totals.specs.Totals.{add_of}
use Rattle.history.specs.Trace.{Event, trace_of, payload_taken, qwcs_read}

-- a history as `History` has it, with the totals, which were any at its start, where no addition since was refused with 54
pub data Totalled (main : List ℕ) (before : Totals) : List Event → Totals → State → Type 0 where
  begins : (s : State) (channel tadr : ℕ) (tte : Bool) → (start_of s channel tadr tte).answer ≡ Started → Totalled main before [] before (start_of s channel tadr tte).state
  runs : {es : List Event} {t : Totals} {s : State} (m : Lent) (allowance : ℕ) → Totalled main before es t s → (add_of t (run_of main allowance s m).counts).answer ≡ Added
      → Totalled main before (es ++ trace_of main allowance s m) (add_of t (run_of main allowance s m).counts).totals (run_of main allowance s m).after.state

-- what was added to the totals tells the truth about the history
pub record TotalsTrue (before : Totals) (es : List Event) (t : Totals) (s : State) : Type 0 where
  -- each ID's sum has grown by QWC of the tags of this ID that were read
  pub by_id_lem : t.qwc ≡ plus_qwc before.qwc (qwcs_read es)
  -- and four times what all eight have grown by are the payload words taken and those pending
  pub balance : 4 * total_qwc t.qwc ≡ 4 * total_qwc before.qwc + (payload_taken es + payload_pending s.payload)

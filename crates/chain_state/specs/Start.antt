-- Reset and start: document 01's "A reset state has every register zero, nothing waiting or pending, an empty log and channel 1. A start sets channel, TADR,
-- tag transfer (TTE), an empty stack and a chain not ended. It drops whatever is pending and keeps VIF registers, a waiting code, GIF paths and the log as
-- they were."
use Rattle.std.specs.Prelude.{ℕ, Bool, false, ◌&&◌, List, [], ◌∷◌, None, Result, Ok, Err}
use Rattle.fields.specs.Fields.{if}
use Rattle.fields.specs.declared.refusals.Refusal.{Refusal}
use Rattle.fields.specs.Refusals.{refusal_number, out_of_range}
use Rattle.gif.specs.declared.Path.{Path}
use Rattle.vif_codes.specs.declared.Waiting.TheVariants.{Nothing}
use Rattle.vif_codes.specs.declared.Vif.{Vif}
use Rattle.chain_state.specs.declared.Stack.TheVariants.{Empty}
use Rattle.chain_state.specs.declared.Payload.TheVariants.{Nothing as NoPayload}
use Rattle.chain_state.specs.StartAnswer.{StartAnswer, Started, Refused}
use Rattle.chain_state.specs.declared.State.{State}
use Rattle.chain_state.specs.Setters.{with_start}
use Rattle.chain_state.specs.Range.{start_in_range, state_in_range}

abbrev pub zeros : List ℕ
zeros = 0 ∷ 0 ∷ 0 ∷ 0 ∷ []

abbrev pub reset_path : Path
reset_path = record { q = 0; place = None }

abbrev pub reset_unit : Vif
reset_unit =
    record {
      cl = 0;
      wl = 0;
      ofst = 0;
      base = 0;
      tops = 0;
      top = 0;
      itops = 0;
      itop = 0;
      dbf = false;
      mode = 0;
      mskpath3 = false;
      mark = 0;
      mask = 0;
      row = zeros;
      col = zeros;
      waiting = Nothing;
    }

unfoldable pub reset_state : State
reset_state =
    record {
      channel = 1;
      tadr = 0;
      tte = false;
      ended = false;
      stack = Empty;
      tags = None;
      payload = NoPayload;
      used = 0;
      vif0 = reset_unit;
      vif1 = reset_unit;
      path2 = reset_path;
      path3 = reset_path;
    }

-- the answer to a start, and the state after it
pub record StartResult : Type 0 where
  pub answer : StartAnswer
  pub state : State

abbrev pub start_result : StartAnswer → State → StartResult
start_result a s = record { answer = a; state = s }

-- what a call on a state leaves: on a refusal, that state
abbrev pub started_by : State → Result State Refusal → StartResult
started_by s (Ok t) = start_result Started t
started_by s (Err e) = start_result (Refused (refusal_number e)) s

-- the number of a start's answer
abbrev pub start_number : StartAnswer → ℕ
start_number Started = 0
start_number (Refused n) = n

-- the state that a start makes of another
abbrev pub started_from : State → ℕ → ℕ → Bool → State
started_from s channel tadr tte = with_start s channel tadr tte false Empty None NoPayload

-- "A start tests 5 only": the given state and the start values
unfoldable pub start_of : State → ℕ → ℕ → Bool → StartResult
start_of s channel tadr tte =
    if (state_in_range s && start_in_range channel tadr tte) (start_result Started (started_from s channel tadr tte)) (start_result (Refused out_of_range) s)

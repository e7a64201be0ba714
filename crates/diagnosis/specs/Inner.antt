-- Facts that inner functions promise; no promise of a public function cites them.
use Rattle.std.specs.Prelude.{ℕ, false, List, ◌≡◌, Result, Ok, Err}
use Rattle.fields.specs.Fields.{if}
use Rattle.fields.specs.declared.refusals.Refusal.{Refusal}
use Rattle.fields.specs.Refusals.{refusal_number, log_full}
use Rattle.gif.specs.Log.{lacks_room}
use Rattle.memories.specs.Lengths.{Lent}
use Rattle.chain.specs.Answer.{Answer, Done, Allowance, Interrupt, Refused as RunRefused}
use Rattle.chain_state.specs.declared.State.{State}
use Rattle.chain_state.specs.Range.{entry_refusal}
use Rattle.chain.specs.Step.{step_of}
use Rattle.chain.specs.Run.{done}
use Rattle.diagnosis.specs.Reason.{Reason, NoComplaint}
use Rattle.diagnosis.specs.declared.Fault.{Fault}
use Rattle.chain_reason.specs.Reason.{next_place}
use Rattle.diagnosis.specs.Why.{next_numbers, step_reason, on_answer}

-- a state of whose log no entry is used
abbrev pub with_none_used : State → State
with_none_used s =
    record {
      channel = s.channel;
      tadr = s.tadr;
      tte = s.tte;
      ended = s.ended;
      stack = s.stack;
      tags = s.tags;
      payload = s.payload;
      used = 0;
      vif0 = s.vif0;
      vif1 = s.vif1;
      path2 = s.path2;
      path3 = s.path3;
    }

-- what a step that was tried on a log with room says: the entries that it needs, or its refusal
pub data Trial : Type 0 where
  Needs : ℕ → Trial
  Refused : ℕ → Trial

abbrev pub trial : Result ℕ Refusal → Trial
trial (Ok k) = Needs k
trial (Err e) = Refused (refusal_number e)

-- what a step does with a log: nothing that is refused, or the refusal and the entries that it needs where it lacks room for them
pub data Outlook : Type 0 where
  Clear : Outlook
  Refuses : ℕ → ℕ → Outlook

abbrev pub outlook : {A : Type 0} → Result A Fault → Outlook
outlook (Ok u) = Clear
outlook (Err f) = Refuses (refusal_number f.refusal) f.needed

-- what a run of one step on a log with room says: its refusal, or else the entries that the step needs
abbrev pub trial_of : Answer → ℕ → Trial
trial_of Done used = Needs used
trial_of Allowance used = Needs used
trial_of Interrupt used = Needs used
trial_of (RunRefused n) used = Refused n

-- the step on another log: refused alike, or else for want of room alone
abbrev pub roomed : Trial → List ℕ → ℕ → Outlook
roomed (Needs k) log used = if (lacks_room log used k) (Refuses log_full k) Clear
roomed (Refused n) log used = Refuses n 0

-- the reason that it gives
abbrev pub told_by : Outlook → List ℕ → State → List ℕ → Reason
told_by Clear main s log = NoComplaint
told_by (Refuses r needed) main s log = step_reason r (next_place s) (next_numbers r needed main s log)

-- a trial tells what the next step answers, whatever the memories and the log are
pub record Tried (main : List ℕ) (s : State) (t : Trial) : Type 0 where
  pub tells : (m : Lent) → entry_refusal main m s ≡ 0 → done s ≡ false
      → told_by (roomed t m.log s.used) main s m.log ≡ on_answer (step_of main s m).answer main s m.log

-- Request 14's fact, over any sequence of runs from one start.
use mathlib.Core.Path.{◌≡◌, refl, sym, ap, ◌∙◌}
use mathlib.Core.Bool.{Bool, true, false, ◌&&◌}
use mathlib.Core.List.{List, [], ◌∷◌, ◌++◌}
use Prim.Native.Nat.{ℕ, zero, suc, ◌+◌, ◌*◌}
use native.Mathlib.Nat.{add-zero}
use native.Mathlib.Omega.{arith}
use borrow.Author.Tests.{eqb-true}
use lib.ListN.{length}
use lib.Dec.{eqb}
use Rattle.fields.specs.declared.Counts.{Counts}
use Rattle.fields.specs.Counts.{none}
use Rattle.fields.specs.Fields.{if}
use Rattle.fields.proofs.ChoiceLaws.{if_ind}
use Rattle.memories.specs.Lengths.{Lent}
use Rattle.chain.specs.Answer.{Done, Interrupt, Refused as AnswerRefused}
use Rattle.chain_state.specs.StartAnswer.{Started}
use Rattle.chain.specs.StepAnswer.{StepAnswer, Completed, Refused}
use Rattle.chain.specs.declared.RunResult.{RunResult}
use Rattle.chain_state.specs.declared.State.{State}
use Rattle.chain_state.specs.Range.{state_in_range, start_in_range, entry_refusal}
use Rattle.chain.specs.Inner.{Ready}
use Rattle.chain_state.specs.Pending.{payload_pending}
use Rattle.chain_state.specs.Start.{StartResult, start_of}
use Rattle.chain.specs.Step.{Stepped, step_of}
use Rattle.chain.specs.Run.{Ran, ran, left_by, done, counted, after_step, steps_of, run_of}
use Rattle.chain.proofs.AfterLaws.{step_stays, step_one}
use Rattle.history.specs.Trace.{Event, traced_by, event_of, steps_trace, trace_of, sum_of, qwc_in, payload_in, qwc_with, qwc_read, payload_taken, qwcs_in, qwcs_read}
use Rattle.history.specs.History.{History, begins, runs, Balanced}
use Rattle.history.proofs.StepBalance.{Balances, step_balances}

pub sum_append : (f : Event → ℕ) (es ds : List Event) → sum_of f (es ++ ds) ≡ sum_of f es + sum_of f ds
unfolding sum_of
sum_append f [] ds = omega arith
sum_append f (e ∷ es) ds = let i = sum_append f es ds in omega arith

-- QWC by ID, of one event
qwcs_one : (e : Event) → qwcs_read (e ∷ []) ≡ qwcs_in e
unfolding sum_of
qwcs_one e =
    rw
    (add-zero (qwc_with 0 e), add-zero (qwc_with 1 e), add-zero (qwc_with 2 e), add-zero (qwc_with 3 e), add-zero (qwc_with 4 e), add-zero (qwc_with 5 e), add-zero (qwc_with 6 e), add-zero (qwc_with 7 e))

-- ---- a run

-- what was pending and four times the QWC read are what was taken and what is pending after it. There is an event for each step counted, and the run counts the QWC
-- read by ID
pub record Kept (s : State) (es : List Event) (r : Ran) : Type 0 where
  pub steps : length es ≡ r.counts.steps
  pub kept : payload_pending s.payload + 4 * qwc_read es ≡ payload_taken es + payload_pending r.after.state.payload
  pub counts : r.counts.qwc ≡ qwcs_read es

-- a run that took no step
nothing_kept : {s : State} {r : Ran} → r.after.state ≡ s → r.counts ≡ none → Kept s [] r
unfolding sum_of
nothing_kept e c = record { steps = ap (λ (x : Counts). x.steps) (sym c); kept = rw e (omega arith); counts = ap (λ (x : Counts). x.qwc) c }

-- one completed step of a run, and those after it
module _ (s : State) {e : Event} {x : Stepped} (w : Balances e (payload_pending s.payload) x) {i : Bool} (q : x.answer ≡ Completed i)
    (one : x.counts.steps ≡ 1) where
  one_kept : Kept s (e ∷ []) (ran Interrupt x.after.state x.counts x.after.memories)
  unfolding sum_of
  one_kept = record { steps = sym one; kept = let b = w.balances i q in omega arith; counts = w.counts i q ∙ sym (qwcs_one e) }

  more_kept : {es : List Event} {r : Ran} → Kept x.after.state es r → Kept s (e ∷ es) (counted x.counts r)
  unfolding sum_of
  more_kept k =
      let b = w.balances i q in
      let r = k.kept in
      let n = k.steps in
      record { steps = omega arith; kept = omega arith; counts = rw (w.counts i q, k.counts) }

module _ (main : List ℕ) where
  -- a step, and the run from there
  turn_kept : (n : ℕ) (s : State) (m : Lent) → Ready main s m
      → ((t : State) (l : Lent) → Ready main t l → Kept t (steps_trace main n t l) (steps_of main n t l))
      → (a : StepAnswer) → (step_of main s m).answer ≡ a
      → Kept s (traced_by (steps_trace main n) a (event_of main s m) (step_of main s m)) (after_step (steps_of main n) a (step_of main s m) s m)
  turn_kept n s m r f (Completed true) q = one_kept s (step_balances main s m r) q (step_one main s m (step_of main s m) refl true q)
  turn_kept n s m r f (Completed false) q =
      let x = step_of main s m in
      more_kept s (step_balances main s m r) q (step_one main s m x refl false q) (f x.after.state x.after.memories (step_stays r x refl false q))
  turn_kept n s m r f (Refused k) q = nothing_kept refl refl

  steps_kept : (n : ℕ) (s : State) (m : Lent) → Ready main s m → Kept s (steps_trace main n s m) (steps_of main n s m)
  unfolding steps_trace steps_of if
  steps_kept zero s m r = if_ind (Kept s []) (done s) (nothing_kept refl refl) (nothing_kept refl refl)
  steps_kept (suc n) s m r = done_or (done s) (turn_kept n s m r (steps_kept n) (step_of main s m).answer refl)
    where
      done_or : (b : Bool) {es : List Event} {o : Ran} → Kept s es o → Kept s (if b [] es) (if b (ran Done s none m) o)
      done_or true k = nothing_kept refl refl
      done_or false k = k

  pub run_kept : (allowance : ℕ) (s : State) (m : Lent) → Kept s (trace_of main allowance s m) (run_of main allowance s m)
  unfolding trace_of run_of if
  run_kept allowance s m = go (eqb (entry_refusal main m s) 0) refl
    where
      go : (b : Bool) → eqb (entry_refusal main m s) 0 ≡ b
          → Kept s (if b (steps_trace main allowance s m) []) (if b (steps_of main allowance s m) (ran (AnswerRefused (entry_refusal main m s)) s none m))
      go true e = steps_kept allowance s m (record { passed = eqb-true (entry_refusal main m s) 0 e })
      go false e = nothing_kept refl refl

-- ---- a history

-- "It drops whatever is pending"
start_clears : (s : State) (channel tadr : ℕ) (tte : Bool) → (start_of s channel tadr tte).answer ≡ Started
    → payload_pending (start_of s channel tadr tte).state.payload ≡ 0
unfolding start_of
start_clears s channel tadr tte =
    if_ind (λ (r : StartResult). r.answer ≡ Started → payload_pending r.state.payload ≡ 0) (state_in_range s && start_in_range channel tadr tte) (λ e. refl)
    (λ e. absurd (let z : ◌≡◌ {A = ℕ} 0 1 = cc in omega arith))

-- over any sequence of runs from one start, on any channel
pub history_fact : {main : List ℕ} {es : List Event} {s : State} → History main es s → Balanced es s
unfolding sum_of
history_fact (begins s channel tadr tte e) = record { balance = let z = start_clears s channel tadr tte e in omega arith }
history_fact {main} (runs {es} {s} m allowance h) =
    let b = (history_fact h).balance in
    let k = (run_kept main allowance s m).kept in
    let q = sum_append qwc_in es (trace_of main allowance s m) in
    let p = sum_append payload_in es (trace_of main allowance s m) in
    record { balance = omega arith }

-- a call of `chain::run`, by its promise, goes on with a history
pub call_goes_on : {main : List ℕ} {es : List Event} {s : State} → History main es s → (m : Lent) (allowance : ℕ) (r : RunResult) {m₁ : Lent}
    → left_by r m₁ ≡ run_of main allowance s m → History main (es ++ trace_of main allowance s m) r.state
call_goes_on {main} {es} {s} h m allowance r e =
    let q = ap (λ (x : Ran). x.after.state) e in
    rw q (runs m allowance h)

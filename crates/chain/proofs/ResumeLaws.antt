-- Request 9: a run that is stopped and gone on with.
use mathlib.Core.Path.{◌≡◌, refl, sym, ap, ◌∙◌}
use mathlib.Core.Bool.{Bool, true, false}
use mathlib.Core.List.{List}
use Prim.Native.Nat.{ℕ, ◌+◌, ◌-◌, ◌<◌, ◌≤◌}
use native.Mathlib.Omega.{arith}
use borrow.Author.Tests.{eqb-true, eqb-false}
use lib.Dec.{eqb}
use Rattle.fields.specs.declared.Counts.{Counts}
use Rattle.fields.specs.Counts.{none, plus}
use Rattle.fields.proofs.CountLaws.{plus_none}
use Rattle.fields.proofs.ChoiceLaws.{if_ind}
use Rattle.memories.specs.Lengths.{Lent}
use Rattle.chain.specs.Answer.{Answer, Done, Allowance, Interrupt, Refused, run_answer}
use Rattle.chain.specs.StepAnswer.{Completed, Refused as StepRefused}
use Rattle.chain.specs.declared.RunResult.{RunResult}
use Rattle.chain_state.specs.declared.State.{State}
use Rattle.chain_state.specs.Range.{entry_refusal}
use Rattle.chain.specs.Step.{Machine, machine}
use Rattle.chain.specs.Run.{Ran, ran, left_by, done, counted, steps_of, run_of}
use Rattle.chain.specs.Stops.{step_from, Reaches, Stops, at_end, at_allowance, at_interrupt, at_refusal}
use Rattle.chain.specs.Resume.{ChangesNothing}
use Rattle.chain.proofs.AfterLaws.{step_one}
use Rattle.chain.proofs.RunLaws.{run_done, run_interrupts, run_refuses, run_refused, run_entered}
use Rattle.chain.proofs.Theorems.{run_stops, run_from_lem, run_accepted}

abbrev from : List ℕ → ℕ → Machine → Ran
from main n x = steps_of main n x.state x.memories

-- ---- a run of n steps or more, by what stops it

module _ {main : List ℕ} {c : Counts} {x y : Machine} (p : Reaches main c x y) where
  goes_to : (n : ℕ) → c.steps ≤ n → from main n x ≡ counted c (from main (n - c.steps) y)
  goes_to n l = let e : n ≡ c.steps + (n - c.steps) = omega arith in ap (λ (k : ℕ). from main k x) e ∙ run_from_lem p (n - c.steps)

  ends_with : (a : Answer) → counted c (ran a y.state none y.memories) ≡ ran a y.state c y.memories
  ends_with a = ap (λ (d : Counts). ran a y.state d y.memories) (plus_none c)

  at_the_end : done y.state ≡ true → (n : ℕ) → c.steps ≤ n → from main n x ≡ ran Done y.state c y.memories
  at_the_end h n l = goes_to n l ∙ ap (counted c) (run_done main y.state y.memories (n - c.steps) h) ∙ ends_with Done

  module _ (h : done y.state ≡ false) where
    at_a_mark : (step_from main y).answer ≡ Completed true → (n : ℕ) → c.steps < n
        → from main n x ≡ ran Interrupt (step_from main y).after.state (plus c (step_from main y).counts) (step_from main y).after.memories
    at_a_mark q n l =
        goes_to n (omega arith) ∙ ap (counted c) (run_interrupts main y.state y.memories (n - c.steps) (n - c.steps - 1) (omega arith) h refl q)

    at_a_refusal : {k : ℕ} → (step_from main y).answer ≡ StepRefused k → (n : ℕ) → c.steps < n → from main n x ≡ ran (Refused k) y.state c y.memories
    at_a_refusal {k} q n l =
        goes_to n (omega arith)
        ∙ ap (counted c) (run_refuses main y.state y.memories (n - c.steps) (n - c.steps - 1) (omega arith) h refl q)
        ∙ ends_with (Refused k)

-- a run that was not stopped by its allowance gives the same with a larger one
no_more : (main : List ℕ) (a b : ℕ) (x : Machine) → Stops main a x (from main a x) → ((from main a x).answer ≡ Allowance → ⊥) → from main (a + b) x ≡ from main a x
no_more main a b x (at_end e l p h) z = at_the_end p h (a + b) (omega arith) ∙ sym (at_the_end p h a l)
no_more main a b x (at_allowance e l p h) z = absurd (z e)
no_more main a b x (at_interrupt c y e k l p h q w) z =
    let one = step_one main y.state y.memories (step_from main y) refl true q in
    let j : c.steps < a = omega (arith, ap (λ (d : Counts). d.steps) k) in
    at_a_mark p h q (a + b) (omega arith) ∙ sym (at_a_mark p h q a j)
no_more main a b x (at_refusal k e l p h q) z = at_a_refusal p h q (a + b) (omega arith) ∙ sym (at_a_refusal p h q a l)

-- one that was stopped by it took all of the steps allowed
goes_on : (main : List ℕ) (a b : ℕ) (x : Machine) → Stops main a x (from main a x) → (from main a x).answer ≡ Allowance
    → from main (a + b) x ≡ counted (from main a x).counts (from main b (from main a x).after)
goes_on main a b x (at_allowance e l p h) z = let n : a + b ≡ (from main a x).counts.steps + b = omega arith in rw n (run_from_lem p b)
goes_on main a b x (at_end e l p h) z = absurd (let y : ◌≡◌ {A = ℕ} 0 1 = cc in omega arith)
goes_on main a b x (at_interrupt c y e k l p h q w) z = absurd (let y : ◌≡◌ {A = ℕ} 0 1 = cc in omega arith)
goes_on main a b x (at_refusal k e l p h q) z = absurd (let y : ◌≡◌ {A = ℕ} 0 1 = cc in omega arith)

-- ---- with the entry tests

module _ (main : List ℕ) (s : State) (m : Lent) where
  -- a run that passes them is its steps, with any allowance
  entered : entry_refusal main m s ≡ 0 → (n : ℕ) → run_of main n s m ≡ steps_of main n s m
  entered z n = sym (run_entered main n s m refl z refl)

  -- and one that does not is refused with any
  barred : (entry_refusal main m s ≡ 0 → ⊥) → (n : ℕ) → run_of main n s m ≡ ran (Refused (entry_refusal main m s)) s none m
  barred z n = sym (run_refused main n s m refl z)

  none_taken : (steps_of main 0 s m).after ≡ machine s m
  unfolding steps_of
  none_taken = if_ind (λ (r : Ran). r.after ≡ machine s m) (done s) refl refl

  none_counted : (steps_of main 0 s m).counts ≡ none
  unfolding steps_of
  none_counted = if_ind (λ (r : Ran). r.counts ≡ none) (done s) refl refl

  -- request 9
  pub stopping_changes_nothing : (a b : ℕ) → ChangesNothing main a b s m
  stopping_changes_nothing a b = go (eqb (entry_refusal main m s) 0) refl
    where
      go : (t : Bool) → eqb (entry_refusal main m s) 0 ≡ t → ChangesNothing main a b s m
      go true h =
          let z = eqb-true (entry_refusal main m s) 0 h in
          let o = steps_of main a s m in
          let again : run_of main b o.after.state o.after.memories ≡ steps_of main b o.after.state o.after.memories = sym (run_entered main b o.after.state o.after.memories refl (run_accepted main a s m z) refl) in
          record {
            resumes = λ q. rw (entered z a, entered z (a + b)) (rw again (sym (goes_on main a b (machine s m) (run_stops main a (machine s m)) (rw (entered z a) at q))));
            stands = λ q. rw (entered z a, entered z (a + b)) (no_more main a b (machine s m) (run_stops main a (machine s m)) (rw (entered z a) at q));
            unmoved = rw (entered z 0) none_taken;
            uncounted = rw (entered z 0) none_counted;
          }
      go false h =
          let z = eqb-false (entry_refusal main m s) 0 h in
          record {
            resumes = λ q. absurd (refused_differs (rw (barred z a) at q));
            stands = λ q. barred z (a + b) ∙ sym (barred z a);
            unmoved = rw (barred z 0);
            uncounted = rw (barred z 0);
          }
        where
          refused_differs : {n : ℕ} → Refused n ≡ Allowance → ⊥
          refused_differs e = let y : ◌≡◌ {A = ℕ} 0 1 = cc in omega arith

-- ---- of two calls, by the promise of `chain::run`: the numbers and the lengths are then those of the program's types

module _ (main : List ℕ) (a b : ℕ) (s : State) (m : Lent) (r : RunResult) {m₁ : Lent} (first : left_by r m₁ ≡ run_of main a s m) (o : RunResult) {m₂ : Lent}
    (whole : left_by o m₂ ≡ run_of main (a + b) s m) where
  -- the first answered 90, and the second was made on what it left
  pub calls_resume : run_answer r.answer ≡ Allowance → (q : RunResult) {m₃ : Lent} → left_by q m₃ ≡ run_of main b r.state m₁ → left_by o m₂ ≡ counted r.counts (left_by q m₃)
  calls_resume e q second =
      whole ∙ sym ((stopping_changes_nothing main s m a b).resumes (ap (λ (x : Ran). x.answer) (sym first) ∙ e)) ∙ rw (← first, ← second)

  -- it answered anything else
  pub calls_stand : (run_answer r.answer ≡ Allowance → ⊥) → left_by o m₂ ≡ left_by r m₁
  calls_stand z = whole ∙ (stopping_changes_nothing main s m a b).stands (λ e. z (ap (λ (x : Ran). x.answer) first ∙ e)) ∙ sym first

-- an allowance of 0
pub call_of_nothing : (main : List ℕ) (s : State) (m : Lent) (r : RunResult) {m₁ : Lent} → left_by r m₁ ≡ run_of main 0 s m → (r.state ≡ s) × (m₁ ≡ m) × (r.counts ≡ none)
call_of_nothing main s m r e =
    let n = stopping_changes_nothing main s m 0 0 in
    let w = ap (λ (x : Ran). x.after) e ∙ n.unmoved in
    (ap (λ (x : Machine). x.state) w, ap (λ (x : Machine). x.memories) w, ap (λ (x : Ran). x.counts) e ∙ n.uncounted)

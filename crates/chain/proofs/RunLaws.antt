-- One turn of a run.
use mathlib.Core.Path.{◌≡◌, refl, sym, ap, ◌∙◌}
use mathlib.Core.Bool.{Bool, true, false}
use mathlib.Core.List.{List}
use Prim.Native.Nat.{ℕ, zero, suc, ◌-◌, ◌≤◌}
use native.Mathlib.Nat.{sub-zero}
use native.Mathlib.Omega.{arith}
use borrow.Author.Tests.{ne_eqb}
use Rattle.std.specs.Prelude.{Result, Ok}
use Rattle.fields.specs.declared.Counts.{Counts}
use Rattle.fields.specs.declared.refusals.Refusal.{Refusal}
use Rattle.fields.specs.Counts.{none, plus}
use Rattle.fields.proofs.CountLaws.{plus_none, none_plus, plus_plus}
use Rattle.fields.specs.Fields.{if}
use Rattle.memories.specs.Lengths.{Lent}
use Rattle.chain.specs.Answer.{Done, Allowance, Interrupt, Refused}
use Rattle.chain.specs.StepAnswer.{StepAnswer, Completed, Refused as StepRefused, step_answer}
use Rattle.chain_state.specs.declared.State.{State}
use Rattle.chain_state.specs.Range.{entry_refusal}
use Rattle.chain.specs.Step.{Stepped, step_of}
use Rattle.chain.specs.Run.{Ran, ran, done, counted, after_step, on_step, steps_of, run_of}

-- a run with other counts
abbrev recounted : Ran → Counts → Ran
recounted r c = record { answer = r.answer; number = r.number; after = r.after; counts = c }

-- nothing before it
pub counted_nothing : (r : Ran) → counted none r ≡ r
counted_nothing r = ap (recounted r) (none_plus r.counts)

-- steps before it, and others before these
pub counted_twice : (c d : Counts) (r : Ran) → counted c (counted d r) ≡ counted (plus c d) r
counted_twice c d r = ap (recounted r) (sym (plus_plus c d r.counts))

-- an answer by what it is
pub completed_as : {a : Result Bool Refusal} {b i : Bool} → a ≡ Ok b → b ≡ i → step_answer a ≡ Completed i
completed_as e q = rw (e, q) refl

by_answer : {a b : StepAnswer} → a ≡ b → (f : State → Lent → Ran) (x : Stepped) (s : State) (m : Lent) {y : Ran} → after_step f b x s m ≡ y → after_step f a x s m ≡ y
by_answer q f x s m h = rw q h

module _ (main : List ℕ) (s : State) (m : Lent) where
  pub run_done : (n : ℕ) → done s ≡ true → steps_of main n s m ≡ ran Done s none m
  unfolding steps_of if
  run_done zero h = rw h
  run_done (suc n) h = rw h

  pub run_out : (n : ℕ) → n ≡ 0 → done s ≡ false → steps_of main n s m ≡ ran Allowance s none m
  unfolding steps_of if
  run_out n z h = rw (z, h)

  module _ (n n' : ℕ) (z : n ≡ suc n') (h : done s ≡ false) {x : Stepped} (e : x ≡ step_of main s m) where
    one_turn : steps_of main n s m ≡ on_step (steps_of main n') x s m
    unfolding steps_of if
    one_turn = rw (z, h, ← e)

    pub run_goes : x.answer ≡ Completed false → steps_of main n s m ≡ counted x.counts (steps_of main n' x.after.state x.after.memories)
    run_goes q = one_turn ∙ by_answer q (steps_of main n') x s m refl

    pub run_interrupts : x.answer ≡ Completed true → steps_of main n s m ≡ ran Interrupt x.after.state x.counts x.after.memories
    run_interrupts q = one_turn ∙ by_answer q (steps_of main n') x s m refl

    pub run_refuses : {k : ℕ} → x.answer ≡ StepRefused k → steps_of main n s m ≡ ran (Refused k) s none m
    run_refuses q = one_turn ∙ by_answer q (steps_of main n') x s m refl

-- ---- the loop's turns, with the steps before them

module _ (main : List ℕ) (s : State) (m : Lent) (c : Counts) (allowance : ℕ) {w : Ran} (i : counted c (steps_of main (allowance - c.steps) s m) ≡ w) where
  pub ends_done : done s ≡ true → ran Done s c m ≡ w
  ends_done h = sym (ap (counted c) (run_done main s m (allowance - c.steps) h) ∙ ap (λ (d : Counts). ran Done s d m) (plus_none c)) ∙ i

  pub ends_out : allowance ≤ c.steps → done s ≡ false → ran Allowance s c m ≡ w
  ends_out l h =
      let z : allowance - c.steps ≡ 0 = omega arith in
      sym (ap (counted c) (run_out main s m (allowance - c.steps) z h) ∙ ap (λ (d : Counts). ran Allowance s d m) (plus_none c)) ∙ i

-- ---- the entry tests

module _ (main : List ℕ) (allowance : ℕ) (s : State) (m : Lent) where
  pub run_refused : {n : ℕ} → n ≡ entry_refusal main m s → (n ≡ 0 → ⊥) → ran (Refused n) s none m ≡ run_of main allowance s m
  unfolding run_of if
  run_refused {n} e z = rw (← e, ne_eqb n 0 z)

  pub run_entered : {n : ℕ} → n ≡ entry_refusal main m s → n ≡ 0 → {x : Ran} → x ≡ steps_of main allowance s m → x ≡ run_of main allowance s m
  unfolding run_of if
  run_entered e z h = rw (← e, z) h

  -- before the first step all of the steps are left
  pub steps_begin : {c : Counts} → c ≡ none → counted c (steps_of main (allowance - c.steps) s m) ≡ steps_of main allowance s m
  steps_begin z = rw (z, sub-zero allowance) (counted_nothing (steps_of main allowance s m))

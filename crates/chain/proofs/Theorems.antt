-- Theorems about whole runs.
use mathlib.Core.Path.{◌≡◌, refl, sym, ap, ◌∙◌}
use mathlib.Core.Bool.{Bool, true, false}
use mathlib.Core.List.{List}
use Prim.Native.Nat.{ℕ, zero, suc, ◌+◌}
use native.Mathlib.Nat.{zero-add}
use native.Mathlib.Omega.{arith}
use Rattle.fields.specs.declared.Counts.{Counts}
use Rattle.fields.specs.Counts.{none, plus}
use Rattle.fields.proofs.CountLaws.{none_plus, plus_plus}
use Rattle.fields.specs.Fields.{if}
use Rattle.memories.specs.Lengths.{Lent}
use Rattle.chain.specs.Answer.{Done}
use Rattle.chain.specs.StepAnswer.{StepAnswer, Completed, Refused as StepRefused}
use Rattle.chain_state.specs.declared.State.{State}
use Rattle.chain_state.specs.Range.{entry_refusal}
use Rattle.chain.specs.Inner.{Ready}
use Rattle.chain.specs.Step.{Machine, machine}
use Rattle.chain.specs.Run.{Ran, ran, done, counted, after_step, steps_of}
use Rattle.chain.specs.Stops.{step_from, Reaches, here, step, Stops, at_end, at_allowance, at_interrupt, at_refusal}
use Rattle.chain.proofs.AfterLaws.{step_stays, step_one}
use Rattle.chain.proofs.RunLaws.{counted_nothing, counted_twice, run_goes}

abbrev run_from : List ℕ → ℕ → Machine → Ran
run_from main n x = steps_of main n x.state x.memories

-- ---- how a run stops

one_more : (main : List ℕ) (n : ℕ) (x : Machine) (r : Ran) → done x.state ≡ false → (step_from main x).answer ≡ Completed false
    → Stops main n (step_from main x).after r → Stops main (suc n) x (counted (step_from main x).counts r)
one_more main n x r d a t = go t
  where
    one : (step_from main x).counts.steps ≡ 1
    one = step_one main x.state x.memories (step_from main x) refl false a

    go : Stops main n (step_from main x).after r → Stops main (suc n) x (counted (step_from main x).counts r)
    go (at_end e l p h) = at_end e (omega (arith, one)) (step d a p) h
    go (at_allowance e c p h) = at_allowance e (omega (arith, one)) (step d a p) h
    go (at_interrupt k y e c l p h b q) =
        at_interrupt (plus (step_from main x).counts k) y e (ap (plus (step_from main x).counts) c ∙ sym (plus_plus (step_from main x).counts k (step_from main y).counts)) (omega (arith, one)) (step d a p) h b q
    go (at_refusal c e l p h b) = at_refusal c e (omega (arith, one)) (step d a p) h b

-- a machine that is done stops there; else by what comes next
done_or : (main : List ℕ) (n : ℕ) (x : Machine) (b : Bool) → done x.state ≡ b → {r : Ran} → (done x.state ≡ false → Stops main n x r)
    → Stops main n x (if b (ran Done x.state none x.memories) r)
unfolding if
done_or main n x true h f = at_end refl (omega arith) here h
done_or main n x false h f = f h

turn_stops : (main : List ℕ) (n : ℕ) (x : Machine) (a : StepAnswer) → done x.state ≡ false → (step_from main x).answer ≡ a
    → ((y : Machine) → Stops main n y (run_from main n y)) → Stops main (suc n) x (after_step (steps_of main n) a (step_from main x) x.state x.memories)
turn_stops main n x (Completed true) d e f =
    at_interrupt none x refl (sym (none_plus (step_from main x).counts)) (omega (arith, step_one main x.state x.memories (step_from main x) refl true e)) here d e refl
turn_stops main n x (Completed false) d e f = one_more main n x _ d e (f (step_from main x).after)
turn_stops main n x (StepRefused c) d e f = at_refusal c refl (omega arith) here d e

-- a run stops only at the end, at an interrupt mark, at a refusal or at the end of the allowance
pub run_stops : (main : List ℕ) (n : ℕ) (x : Machine) → Stops main n x (run_from main n x)
unfolding steps_of
run_stops main zero x = done_or main 0 x (done x.state) refl (at_allowance refl refl here)
run_stops main (suc n) x = done_or main (suc n) x (done x.state) refl (λ h. turn_stops main n x (step_from main x).answer h refl (run_stops main n))

-- ---- steps compose

pub reaches_join : {main : List ℕ} {c d : Counts} {x y z : Machine} → Reaches main c x y → Reaches main d y z → Reaches main (plus c d) x z
reaches_join {main} {c} {d} here q = rw (none_plus d) q
reaches_join {main} {c} {d} (step {c = k} {x} e a p) q = rw (plus_plus (step_from main x).counts k d) (step e a (reaches_join p q))

-- a run goes on from where some of its steps led
pub run_from_lem : {main : List ℕ} {c : Counts} {x y : Machine} → Reaches main c x y → (n : ℕ) → run_from main (c.steps + n) x ≡ counted c (run_from main n y)
run_from_lem {main} {y = y} here n = rw (zero-add n) (sym (counted_nothing (run_from main n y)))
run_from_lem {main} (step {c} {x} {z} d a p) n =
    let one = step_one main x.state x.memories (step_from main x) refl false a in
    run_goes main x.state x.memories ((step_from main x).counts.steps + c.steps + n) (c.steps + n) (omega arith) d refl a
    ∙ ap (counted (step_from main x).counts) (run_from_lem p n)
    ∙ counted_twice (step_from main x).counts c (run_from main n z)

-- ---- what a run leaves is accepted by the next run with the same memories

pub ready_along : {main : List ℕ} {c : Counts} {x y : Machine} → Reaches main c x y → Ready main x.state x.memories → Ready main y.state y.memories
ready_along here r = r
ready_along {main} (step {x = x} d a p) r = ready_along p (step_stays r (step_from main x) refl false a)

ready_after : (main : List ℕ) (n : ℕ) (x : Machine) (o : Ran) → Stops main n x o → Ready main x.state x.memories → Ready main o.after.state o.after.memories
ready_after main n x o (at_end e l p h) r = ready_along p r
ready_after main n x o (at_allowance e c p h) r = ready_along p r
ready_after main n x o (at_interrupt k y e c l p h b q) r = rw q (step_stays (ready_along p r) (step_from main y) refl true b)
ready_after main n x o (at_refusal c e l p h b) r = ready_along p r

pub run_accepted : (main : List ℕ) (n : ℕ) (s : State) (m : Lent) → entry_refusal main m s ≡ 0
    → entry_refusal main (steps_of main n s m).after.memories (steps_of main n s m).after.state ≡ 0
run_accepted main n s m h = (ready_after main n (machine s m) (steps_of main n s m) (run_stops main n (machine s m)) (record { passed = h })).passed

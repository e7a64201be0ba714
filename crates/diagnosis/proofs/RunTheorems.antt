-- What the diagnosis says of runs.
use mathlib.Core.Path.{◌≡◌, refl, sym, ap, ◌∙◌}
use mathlib.Core.Bool.{Bool, true, false}
use mathlib.Core.List.{List}
use Prim.Native.Nat.{ℕ, suc}
use native.Mathlib.Omega.{arith}
use borrow.Author.Tests.{eqb-true, eqb-false, ne_eqb}
use lib.Dec.{eqb}
use Rattle.fields.specs.Fields.{if}
use Rattle.fields.specs.Counts.{none}
use Rattle.memories.specs.Lengths.{Lent}
use Rattle.chain.specs.Answer.{Answer, Done, Allowance, Interrupt, Refused as RunRefused}
use Rattle.chain_state.specs.declared.State.{State}
use Rattle.chain_state.specs.Range.{entry_refusal}
use Rattle.chain.specs.Step.{Machine, machine}
use Rattle.chain.specs.Run.{Ran, ran, done, steps_of, run_of}
use Rattle.chain.specs.Stops.{Stops, at_end, at_allowance, at_interrupt, at_refusal}
use Rattle.chain.proofs.RunLaws.{run_refuses}
use Rattle.chain.proofs.Theorems.{run_stops, run_accepted}
use Rattle.diagnosis.specs.Reason.{Ended}
use Rattle.diagnosis.specs.Why.{why_of}
use Rattle.diagnosis.specs.Truth.{NextGives, RunsSo}
use Rattle.diagnosis.proofs.Theorems.{says_true, to_end, named, gives}

-- the four answers differ
abbrev kind : Answer → ℕ
kind Done = 0
kind Allowance = 1
kind Interrupt = 2
kind (RunRefused n) = 3

abbrev refusal_in : Answer → ℕ
refusal_in Done = 0
refusal_in Allowance = 0
refusal_in Interrupt = 0
refusal_in (RunRefused n) = n

-- where the entry tests pass, a run is its steps
run_is : (main : List ℕ) (n : ℕ) (s : State) (m : Lent) → entry_refusal main m s ≡ 0 → run_of main n s m ≡ steps_of main n s m
unfolding run_of if
run_is main n s m h = rw h

-- a run whose answer is a refusal left a machine whose next step gives it
refused_next : {main : List ℕ} {n : ℕ} {x : Machine} {o : Ran} → Stops main n x o → entry_refusal main o.after.memories o.after.state ≡ 0 → (r : ℕ)
    → o.answer ≡ RunRefused r → NextGives main o.after.state o.after.memories r
refused_next (at_end e l p d) h r q = absurd (let k : ◌≡◌ {A = ℕ} 0 3 = ap kind (sym e ∙ q) in omega arith)
refused_next (at_allowance e l p d) h r q = absurd (let k : ◌≡◌ {A = ℕ} 1 3 = ap kind (sym e ∙ q) in omega arith)
refused_next (at_interrupt c y e k l p d b w) h r q = absurd (let k : ◌≡◌ {A = ℕ} 2 3 = ap kind (sym e ∙ q) in omega arith)
refused_next (at_refusal c e l p d b) h r q = let k : c ≡ r = ap refusal_in (sym e ∙ q) in record { passed = h; going = d; gives = rw (← k) b }

-- a run that is done left a machine that is
done_left : {main : List ℕ} {n : ℕ} {x : Machine} {o : Ran} → Stops main n x o → o.answer ≡ Done → done o.after.state ≡ true
done_left (at_end e l p d) q = d
done_left (at_allowance e l p d) q = absurd (let k : ◌≡◌ {A = ℕ} 1 0 = ap kind (sym e ∙ q) in omega arith)
done_left (at_interrupt c y e k l p d b w) q = absurd (let k : ◌≡◌ {A = ℕ} 2 0 = ap kind (sym e ∙ q) in omega arith)
done_left (at_refusal c e l p d b) q = absurd (let k : ◌≡◌ {A = ℕ} 3 0 = ap kind (sym e ∙ q) in omega arith)

module _ (main : List ℕ) (s : State) (m : Lent) where
  stopped_next : (r n : ℕ) → entry_refusal main m s ≡ 0 → (run_of main n s m).answer ≡ RunRefused r
      → NextGives main (run_of main n s m).after.state (run_of main n s m).after.memories r
  stopped_next r n h e =
      let w = run_is main n s m h in
      rw w (refused_next (run_stops main n (machine s m)) (run_accepted main n s m h) r (ap (λ (o : Ran). o.answer) (sym w) ∙ e))

  refused_run : (r : ℕ) → NextGives main s m r → (n : ℕ) → run_of main (suc n) s m ≡ ran (RunRefused r) s none m
  refused_run r g n = run_is main (suc n) s m g.passed ∙ run_refuses main s m (suc n) n refl g.going refl g.gives

  refused_here : (r n : ℕ) → entry_refusal main m s ≡ 0 → run_of main (suc n) s m ≡ ran (RunRefused r) s none m → NextGives main s m r
  refused_here r n h e = rw e at (stopped_next r (suc n) h (ap (λ (o : Ran). o.answer) e))

  entry_run : (n : ℕ) → (entry_refusal main m s ≡ n) × (n ≡ 0 → ⊥) → (k : ℕ) → run_of main k s m ≡ ran (RunRefused n) s none m
  unfolding run_of if
  entry_run n g k = rw (g.0, ne_eqb n 0 g.1)

  finished_end : (n : ℕ) → (run_of main n s m).answer ≡ Done → why_of main (run_of main n s m).after.state (run_of main n s m).after.memories ≡ Ended
  finished_end n e = go (eqb (entry_refusal main m s) 0) refl
    where
      go : (b : Bool) → eqb (entry_refusal main m s) 0 ≡ b → why_of main (run_of main n s m).after.state (run_of main n s m).after.memories ≡ Ended
      go true q =
          let h = eqb-true _ _ q in
          let w = run_is main n s m h in
          rw w (to_end main _ _ (run_accepted main n s m h, done_left (run_stops main n (machine s m)) (ap (λ (o : Ran). o.answer) (sym w) ∙ e)))
      go false q = absurd (let k : ◌≡◌ {A = ℕ} 3 0 = ap kind (sym (ap (λ (o : Ran). o.answer) (entry_refuses q)) ∙ e) in omega arith)
        where
          entry_refuses : eqb (entry_refusal main m s) 0 ≡ false → run_of main n s m ≡ ran (RunRefused (entry_refusal main m s)) s none m
          entry_refuses q = entry_run (entry_refusal main m s) (refl, eqb-false _ _ q) n

  pub runs_so : RunsSo main s m
  runs_so =
      record {
        refused = λ r n. refused_run r (gives main s m r n);
        refuses = λ r n h e. named main s m r (refused_here r n h e);
        entered = λ n e. entry_run n (((says_true main s m).entry n).0 e);
        stopped = λ r n h e. named main _ _ r (stopped_next r n h e);
        finished = finished_end;
      }

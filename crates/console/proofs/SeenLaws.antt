-- "Runs read the block as it stands; demand 3 is unaffected": what a start and a run see of a number that is set.
use Prim.Native.Nat.{ℕ}
use mathlib.Core.Path.{◌≡◌, refl}
use mathlib.Core.Bool.{Bool, true, false, ◌&&◌}
use mathlib.Core.List.{List}
use Rattle.fields.specs.Fields.{if}
use Rattle.fields.specs.Refusals.{out_of_range}
use Rattle.memories.specs.declared.VifUnit.{VifUnit}
use Rattle.memories.specs.declared.VifUnit.TheVariants.{Vif0, Vif1}
use Rattle.memories.specs.Lengths.{Lent}
use Rattle.chain_state.specs.declared.State.{State}
use Rattle.chain_state.specs.StartAnswer.{Started, Refused}
use Rattle.chain_state.specs.Range.{unit_of, start_in_range, state_in_range, entry_refusal}
use Rattle.chain_state.specs.Setters.{with_unit, held_by}
use Rattle.chain_state.specs.Start.{StartResult, start_result, started_from, start_of}
use Rattle.console.specs.Register.{number_set}
use Rattle.console.specs.Block.{state_set}
use Rattle.console.proofs.RegisterLaws.{unit_range_kept}

-- the state with a number of a unit set
abbrev changed : VifUnit → State → ℕ → ℕ → State
changed which s number value = with_unit which s (number_set (held_by which s) number value) s.path2 s.used

-- of two results by one test, changed alike
either : (f : State → State) (t : Bool) (x y : StartResult)
    → if t (start_result x.answer (f x.state)) (start_result y.answer (f y.state)) ≡ start_result (if t x y).answer (f (if t x y).state)
unfolding if
either f true x y = refl
either f false x y = refl

module _ (number value : ℕ) where
  -- ROW and COL hold any value: what was in range stays so, and no other state comes into it
  range_kept : (which : VifUnit) (s : State) → state_in_range (changed which s number value) ≡ state_in_range s
  unfolding state_in_range
  range_kept Vif0 s = rw (unit_range_kept s.vif0 number value Vif0)
  range_kept Vif1 s = rw (unit_range_kept s.vif1 number value Vif1)

  -- a start on it is the start with the number set afterwards
  start_changed : (which : VifUnit) (s : State) (channel tadr : ℕ) (tte : Bool)
      → start_of (changed which s number value) channel tadr tte
      ≡ start_result (start_of s channel tadr tte).answer (changed which (start_of s channel tadr tte).state number value)
  unfolding start_of
  start_changed Vif0 s channel tadr tte =
      rw (range_kept Vif0 s)
      (either (λ (x : State). changed Vif0 x number value) (state_in_range s && start_in_range channel tadr tte) (start_result Started (started_from s channel tadr tte))
      (start_result (Refused out_of_range) s))
  start_changed Vif1 s channel tadr tte =
      rw (range_kept Vif1 s)
      (either (λ (x : State). changed Vif1 x number value) (state_in_range s && start_in_range channel tadr tte) (start_result Started (started_from s channel tadr tte))
      (start_result (Refused out_of_range) s))

  -- the entry tests of a run give what they gave
  entry_changed : (which : VifUnit) (main : List ℕ) (m : Lent) (s : State) → entry_refusal main m (changed which s number value) ≡ entry_refusal main m s
  unfolding entry_refusal
  entry_changed Vif0 main m s = rw (range_kept Vif0 s)
  entry_changed Vif1 main m s = rw (range_kept Vif1 s)

-- "Runs read the block as it stands", unit 0 VIF0, any other VIF1: a state is in range with the number set exactly if it was
module _ (unit number value : ℕ) (s : State) where
  pub set_in_range : state_in_range (state_set unit s number value) ≡ state_in_range s
  set_in_range = range_kept number value (unit_of unit) s

  -- a start keeps the number that was set: it gives the same answer, and the state that it would have left, with the number set
  pub start_sees : (channel tadr : ℕ) (tte : Bool)
      → start_of (state_set unit s number value) channel tadr tte
      ≡ start_result (start_of s channel tadr tte).answer (state_set unit (start_of s channel tadr tte).state number value)
  start_sees channel tadr tte = start_changed number value (unit_of unit) s channel tadr tte

  -- a run enters exactly if it would have entered
  pub entry_sees : (main : List ℕ) (m : Lent) → entry_refusal main m (state_set unit s number value) ≡ entry_refusal main m s
  entry_sees main m = entry_changed number value (unit_of unit) main m s

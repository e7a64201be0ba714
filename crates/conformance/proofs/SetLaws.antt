-- Request 7: "demand 3 is unaffected": its premises hold with a number of either unit set where they held without, and so does its conclusion.
use Prim.Native.Nat.{ℕ}
use mathlib.Core.Path.{◌≡◌, ap, ◌∙◌}
use mathlib.Core.Bool.{false}
use mathlib.Core.List.{List}
use lib.ListN.{length}
use Rattle.memories.specs.declared.VifUnit.{VifUnit}
use Rattle.memories.specs.declared.VifUnit.TheVariants.{Vif0, Vif1}
use Rattle.memories.specs.Lengths.{Lent}
use Rattle.vif_codes.specs.declared.Vif.{Vif}
use Rattle.vif_codes.specs.declared.Waiting.TheVariants.{Nothing}
use Rattle.chain_state.specs.declared.State.{State}
use Rattle.chain_state.specs.Range.{unit_of, entry_refusal}
use Rattle.chain_state.specs.Setters.{pick_unit}
use Rattle.chain_state.specs.Start.{StartResult, start_of}
use Rattle.console.specs.Register.{number_set}
use Rattle.console.specs.Block.{state_set}
use Rattle.console.proofs.RegisterLaws.{waiting_kept, row_length}
use Rattle.console.proofs.SeenLaws.{start_sees, entry_sees}
use Rattle.conformance.specs.Demand.{Typed, Premises, Conclusion}
use Rattle.conformance.proofs.Theorem.{demand_3}

module _ (unit number value : ℕ) (s : State) where
  abbrev set : State
  set = state_set unit s number value

  -- VIF1's registers are those with the number set, or as they were
  of_vif1 : (P : Vif → Type 0) → P s.vif1 → P (number_set s.vif1 number value) → P set.vif1
  of_vif1 P x y = go (unit_of unit)
    where
      go : (which : VifUnit) → P (pick_unit which s.vif1 (number_set (pick_unit which s.vif0 s.vif1) number value))
      go Vif0 = x
      go Vif1 = y

  pub typed_set : (sheet : List ℕ) → Typed sheet s → Typed sheet set
  typed_set sheet t =
      record {
        bytes = t.bytes;
        row = of_vif1 (λ (v : Vif). length v.row ≡ 4) t.row (row_length s.vif1 number value ∙ t.row);
      }

  module _ {sheet output main : List ℕ} {a size allowance : ℕ} {m : Lent} where
    pub premises_set : Premises sheet output main a size allowance s m → Premises sheet output main a size allowance set m
    premises_set p =
        record {
          built = p.built;
          rest = p.rest;
          placed = p.placed;
          aligned = p.aligned;
          started = ap (λ (r : StartResult). r.answer) (start_sees unit number value s 1 a false) ∙ p.started;
          entered =
              ap (λ (r : StartResult). entry_refusal main m r.state) (start_sees unit number value s 1 a false)
              ∙ entry_sees unit number value (start_of s 1 a false).state main m
              ∙ p.entered;
          idle = of_vif1 (λ (v : Vif). v.waiting ≡ Nothing) p.idle (waiting_kept s.vif1 number value ∙ p.idle);
          path_idle = p.path_idle;
          room = p.room;
          allowed = p.allowed;
        }

    -- demand 3 after a number was set, from the premises before it
    pub demand_3_set : Typed sheet s → Premises sheet output main a size allowance s m → Conclusion sheet main a allowance set m
    demand_3_set t p = demand_3 sheet output main a size allowance set m (typed_set sheet t) (premises_set p)

-- A start that is accepted, and the run's entry tests on what it leaves.
use mathlib.Core.Path.{◌≡◌, refl}
use mathlib.Core.Bool.{true, false}
use mathlib.Core.List.{List}
use Prim.Native.Nat.{ℕ, ◌%◌, ◌≤◌}
use borrow.Author.Tests.{le-ltb, eq-eqb, ne_eqb}
use lib.ListN.{length}
use Rattle.fields.specs.Fields.{if}
use Rattle.memories.specs.declared.VifUnit.TheVariants.{Vif1}
use Rattle.memories.specs.Lengths.{Lent, LengthsFit}
use Rattle.chain_state.specs.StartAnswer.{Started}
use Rattle.chain_state.specs.declared.State.{State}
use Rattle.chain_state.specs.Range.{unit_of, main_refused, state_in_range, start_in_range, stack_in_range, tags_in_range, payload_in_range, tags_inside, payload_inside}
use Rattle.chain_state.specs.Start.{start_result, started_from, start_of}
use Rattle.chain.specs.Inner.{Ready}
use Rattle.chain.proofs.ReadyLaws.{fields_of_lem, ready_of}

module _ (s : State) (a : ℕ) (ranged : state_in_range s ≡ true) (starts : start_in_range 1 a false ≡ true) where
  pub start_accepted : start_of s 1 a false ≡ start_result Started (started_from s 1 a false)
  unfolding start_of if
  start_accepted = rw (ranged, starts)

  -- a start drops what is pending, so the lengths are all that is left to test
  pub start_ready : (main : List ℕ) (m : Lent) → main_refused (length main) ≡ false → LengthsFit Vif1 m s.used
      → Ready main (started_from s 1 a false) m
  unfolding unit_of if tags_inside payload_inside stack_in_range tags_in_range payload_in_range
  start_ready main m size fit =
      let f = fields_of_lem s ranged in
      ready_of
      (record {
        size = size;
        fit = fit;
        fields = record { start = starts; stack = refl; tags = refl; payload = refl; unit0 = f.unit0; unit1 = f.unit1; path2 = f.path2; path3 = f.path3 };
        tags_in = refl;
        payload_in_lem = refl;
      })

-- main memory's test
pub main_passes : (n : ℕ) → (n ≡ 0 → ⊥) → n % 16 ≡ 0 → n ≤ 1048576 → main_refused n ≡ false
unfolding main_refused
main_passes n some whole most = rw (ne_eqb n 0 some, eq-eqb (n % 16) 0 whole, le-ltb 1048576 n most)

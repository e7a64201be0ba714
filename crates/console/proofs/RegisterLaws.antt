-- What setting a number leaves alone, for every block, number and value.
use Prim.Native.Nat.{ℕ, ◌-◌}
use mathlib.Core.Path.{◌≡◌, refl}
use lib.ListN.{length, set, length-set}
use lib.Dec.{ltb}
use Rattle.fields.proofs.ChoiceLaws.{if_ind}
use Rattle.memories.specs.declared.VifUnit.{VifUnit}
use Rattle.vif_codes.specs.declared.Vif.{Vif}
use Rattle.vif_codes.specs.Setters.{with_row, with_col}
use Rattle.vif_codes.specs.Range.{registers_in_range, unit_in_range}
use Rattle.console.specs.Register.{number_set}

module _ (v : Vif) (number value : ℕ) where
  by_number : (P : Vif → Type 0) → P (with_row v (set v.row number value)) → P (with_col v (set v.col (number - 4) value)) → P (number_set v number value)
  unfolding number_set
  by_number P p q = if_ind P (ltb number 4) p q

  -- "and so is the waiting code, which the block holds too"
  pub waiting_kept : (number_set v number value).waiting ≡ v.waiting
  waiting_kept = by_number (λ (w : Vif). w.waiting ≡ v.waiting) refl refl

  -- ROW stays four words
  pub row_length : length (number_set v number value).row ≡ length v.row
  row_length = by_number (λ (w : Vif). length w.row ≡ length v.row) (length-set v.row number value) refl

  -- ROW and COL hold any value
  pub unit_range_kept : (which : VifUnit) → unit_in_range which (number_set v number value) ≡ unit_in_range which v
  unfolding unit_in_range registers_in_range
  unit_range_kept which = by_number (λ (w : Vif). unit_in_range which w ≡ unit_in_range which v) refl refl

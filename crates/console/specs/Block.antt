-- The same in a state block (docs/FORMATS.md), which has both units' registers. Request 10: "Request 7 takes either unit's block, 51 by that unit's waiting code."
use Rattle.std.specs.Prelude.{ℕ, ◌+◌, not, ◌||◌, List, set, eqb, ltb}
use Rattle.fields.specs.Fields.{if}
use Rattle.fields.specs.Refusals.{out_of_range, number_missing, code_waits}
use Rattle.vif_codes.specs.declared.Vif.{Vif}
use Rattle.chain_state.specs.declared.State.{State}
use Rattle.chain_state.specs.Range.{unit_of}
use Rattle.chain_state.specs.Setters.{with_unit, held_by}
use Rattle.state_block.specs.Sizes.{vif1_at, vif0_at}
use Rattle.state_block.specs.StateBlock.{state_in_block}
use Rattle.console.specs.SetAnswer.{SetAnswer, Set, Refused}
use Rattle.console.specs.Register.{is_waiting, number_set}

-- unit 0 is VIF0 and unit 1 VIF1; the registers of one, and the state with one of its eight numbers replaced
abbrev pub unit_held : ℕ → State → Vif
unit_held unit s = held_by (unit_of unit) s

abbrev pub state_set : ℕ → State → ℕ → ℕ → State
state_set unit s number value = with_unit (unit_of unit) s (number_set (unit_held unit s) number value) s.path2 s.used

-- ROW is words 13 to 16 of a unit block, COL words 17 to 20: the eight numbers one after another
abbrev pub row_at : ℕ
row_at = 13

unfoldable pub number_at : ℕ → ℕ → ℕ
number_at unit number = if (eqb unit 0) vif0_at vif1_at + (row_at + number)

-- the answer, and the block afterwards
pub record SetBlock : Type 0 where
  pub answer : SetAnswer
  pub block : List ℕ

abbrev pub set_block : SetAnswer → List ℕ → SetBlock
set_block a block = record { answer = a; block = block }

-- "50 for a number above 7, then 51"; between them 5, for a unit above 1 and for words that are no state's. A refusal leaves the block as it was; else one word of
-- it changes
unfoldable pub set_in_block : List ℕ → ℕ → ℕ → ℕ → SetBlock
set_in_block block unit number value =
    if (ltb 7 number) (set_block (Refused number_missing) block)
    (if (ltb 1 unit || not (state_in_block block).known) (set_block (Refused out_of_range) block)
    (if (is_waiting (unit_held unit (state_in_block block).state).waiting) (set_block (Refused code_waits) block)
    (set_block Set (set block (number_at unit number) value))))

-- Request 7: "Setting ROW and COL from the console." The register block of a unit holds its registers and the code that waits.
use Rattle.std.specs.Prelude.{ℕ, ◌-◌, Bool, true, false, set, ltb, Result, Ok, Err}
use Rattle.fields.specs.Fields.{if}
use Rattle.fields.specs.declared.refusals.Refusal.{Refusal}
use Rattle.fields.specs.Refusals.{refusal_number, number_missing, code_waits}
use Rattle.vif_codes.specs.declared.Waiting.{Waiting}
use Rattle.vif_codes.specs.declared.Waiting.TheVariants.{Nothing, MaskDue, RowDue, ColDue, MpgDue, DirectDue, DirecthlDue, UnpackDue}
use Rattle.vif_codes.specs.declared.Vif.{Vif}
use Rattle.vif_codes.specs.Setters.{with_row, with_col}
use Rattle.console.specs.SetAnswer.{SetAnswer, Set, Refused}

-- "if a code is waiting for payload"
unfoldable pub is_waiting : Waiting → Bool
is_waiting Nothing = false
is_waiting (MaskDue i) = true
is_waiting (RowDue due i) = true
is_waiting (ColDue due i) = true
is_waiting (MpgDue address count due i) = true
is_waiting (DirectDue due i) = true
is_waiting (DirecthlDue due i) = true
is_waiting (UnpackDue f u) = true

-- "changes one of the eight numbers in place to the value given: 0 to 3 ROW, 4 to 7 COL. Every other register is unchanged, and so is the waiting code, which
-- the block holds too."
unfoldable pub number_set : Vif → ℕ → ℕ → Vif
number_set v number value =
    if (ltb number 4) (with_row v (set v.row number value)) (with_col v (set v.col (number - 4) value))

-- the answer, and the registers afterwards
pub record SetResult : Type 0 where
  pub answer : SetAnswer
  pub block : Vif

abbrev pub set_result : SetAnswer → Vif → SetResult
set_result a v = record { answer = a; block = v }

-- what a call by value leaves: on a refusal, the registers that it was given
abbrev pub set_by : Vif → Result Vif Refusal → SetResult
set_by v (Ok w) = set_result Set w
set_by v (Err e) = set_result (Refused (refusal_number e)) v

-- the number of an answer
abbrev pub set_number : SetAnswer → ℕ
set_number Set = 0
set_number (Refused n) = n

-- "50 for a number above 7, then 51 if a code is waiting for payload; both leave the block unchanged"
unfoldable pub set_of : Vif → ℕ → ℕ → SetResult
set_of v number value =
    if (ltb 7 number) (set_result (Refused number_missing) v)
    (if (is_waiting v.waiting) (set_result (Refused code_waits) v)
    (set_result Set (number_set v number value)))

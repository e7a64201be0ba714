-- The sums of a sheet, or its refusal, by number, with the record's offset.
use Rattle.std.specs.Prelude.{ℕ, Result, Ok, Err}
use Rattle.fields.specs.Refusals.{refusal_number}
use Rattle.sheet.specs.declared.SheetError.{SheetError}
use Rattle.sheet.specs.declared.sums.Totals.{Totals}

pub data Measured : Type 0 where
  Whole : Totals → Measured
  Refused : ℕ → ℕ → Measured

abbrev pub measured : Result Totals SheetError → Measured
measured (Ok t) = Whole t
measured (Err e) = Refused (refusal_number e.refusal) e.offset

-- What stands at a place of a sheet in the papers' words: its end, a record with the place after it, or a refusal, by number, with the record's offset.
use Rattle.std.specs.Prelude.{ℕ, Result, Ok, Err, Option, Some, None}
use Rattle.fields.specs.declared.refusals.Refusal.{Refusal}
use Rattle.fields.specs.Refusals.{refusal_number}
use Rattle.sheet.specs.declared.SheetError.{SheetError}
use Rattle.sheet.specs.declared.Kind.{Kind}
use Rattle.sheet.specs.declared.Record.{Record}

pub data Reading : Type 0 where
  End : Reading
  Found : Kind → ℕ → ℕ → ℕ → Reading
  Refused : ℕ → ℕ → Reading

abbrev pub reading : Result (Option Record) SheetError → Reading
reading (Ok None) = End
reading (Ok (Some r)) = Found r.kind r.count r.address r.next
reading (Err e) = Refused (refusal_number e.refusal) e.offset

-- of the record at a place, or its refusal
abbrev pub reading_of : ℕ → Result Record Refusal → Reading
reading_of at (Ok r) = Found r.kind r.count r.address r.next
reading_of at (Err e) = Refused (refusal_number e) at

-- What stands at a place in the papers' words: the sheet's end, an item with the place after it and its sums, or a refusal, by number, with the record's offset.
use Rattle.std.specs.Prelude.{ℕ, Result, Ok, Err, Option, Some, None}
use Rattle.fields.specs.Refusals.{refusal_number}
use Rattle.sheet.specs.declared.SheetError.{SheetError}
use Rattle.sheet.specs.declared.sums.Totals.{Totals}
use Rattle.sheet.specs.declared.items.ItemTotals.{ItemTotals}

pub data ItemAnswer : Type 0 where
  End : ItemAnswer
  Found : ℕ → Totals → ItemAnswer
  Refused : ℕ → ℕ → ItemAnswer

abbrev pub item_answer : Result (Option ItemTotals) SheetError → ItemAnswer
item_answer (Ok None) = End
item_answer (Ok (Some i)) = Found i.next i.totals
item_answer (Err e) = Refused (refusal_number e.refusal) e.offset

-- of an item that stands there
abbrev pub some_answer : Result ItemTotals SheetError → ItemAnswer
some_answer (Ok i) = Found i.next i.totals
some_answer (Err e) = Refused (refusal_number e.refusal) e.offset

-- What the header at a place says in the papers' words: the sheet's end, a record, a group, or a refusal, by number, with the record's offset.
use Rattle.std.specs.Prelude.{ℕ, Result, Ok, Err, Option, Some, None}
use Rattle.fields.specs.Refusals.{refusal_number}
use Rattle.sheet.specs.declared.SheetError.{SheetError}
use Rattle.sheet.specs.declared.Kind.{Kind}
use Rattle.sheet.specs.declared.Item.{Item}
use Rattle.sheet.specs.declared.Item.TheVariants.{Single as ItemSingle, Group as ItemGroup}

pub data Header : Type 0 where
  End : Header
  Single : Kind → ℕ → ℕ → ℕ → Header
  Group : ℕ → ℕ → Header
  Refused : ℕ → ℕ → Header

abbrev pub header : Result (Option Item) SheetError → Header
header (Ok None) = End
header (Ok (Some (ItemSingle r))) = Single r.kind r.count r.address r.next
header (Ok (Some (ItemGroup n m))) = Group n m
header (Err e) = Refused (refusal_number e.refusal) e.offset

-- What is done with the records of an expansion, one after another: any action on a state, once for the chain and the meaning.
-- Of the promises of public functions only those of `first_item`, `act_on` and `Fitting::act` cite it.
use Rattle.std.specs.Prelude.{ℕ, ◌+◌, ◌≤◌, ◌≡◌, true, List, [], length, eqb}
use Rattle.fields.specs.Fields.{if}
use Rattle.sheet.specs.declared.Kind.{Kind}
use Rattle.sheet.specs.declared.sums.Totals.{Totals}
use Rattle.sheet.specs.Measured.{Measured, Whole, Refused as MeasureRefused}
use Rattle.sheet.specs.Records.{Record, header_length, count_fits, address_fits, body_length}
use Rattle.sheet.specs.Reader.{Contents, valid, refused}
use Rattle.sheet.specs.Items.{Item, Items, repeated, expanded_item, expanded}
use Rattle.sheet.specs.Groups.{starts_second, ItemRead, ended, item, refused as itemRefused, MembersRead, members, broken}
use Rattle.sheet.specs.Editions.{expansion_from}
use Rattle.sheet.specs.Sums.{sheet_totals}

abbrev pub RecordList : Type 0
RecordList = List Record

-- the records of accepted contents
abbrev pub records_in : Contents → List Record
records_in (valid rs) = rs
records_in (refused n offset) = []

-- a record whose body stands at a place of the sheet, and whose numbers fit its kind
pub record RecordThere (sheet : List ℕ) (body : ℕ) (k : Kind) (n a : ℕ) : Type 0 where
  pub counted : count_fits k n ≡ true
  pub addressed : address_fits k a ≡ true
  pub inside : body + body_length k n ≤ length sheet

-- what is left: the place after what was read, and the state
pub record Done (S : Type 0) : Type 0 where
  pub next : ℕ
  pub state : S

abbrev pub done : {S : Type 0} → ℕ → S → Done S
done next state = record { next = next; state = state }

-- an item, members once, and members so many times; nothing is done with what is refused
unfoldable pub item_done : {S : Type 0} → (List Record → S → S) → ItemRead → S → Done S
item_done act ended s = done 0 s
item_done act (item i next) s = done next (act (expanded_item i) s)
item_done act (itemRefused n offset) s = done 0 s

unfoldable pub members_done : {S : Type 0} → (List Record → S → S) → MembersRead → S → Done S
members_done act (members is next) s = done next (act (expanded is) s)
members_done act (broken n offset) s = done 0 s

unfoldable pub turns_done : {S : Type 0} → (List Record → S → S) → ℕ → MembersRead → S → Done S
turns_done act n (members is next) s = done next (act (repeated n (expanded is)) s)
turns_done act n (broken k offset) s = done 0 s

-- what is read is accepted, and the state has room for it
pub record ItemFits {S : Type 0} (Room : List Record → S → Type 0) (x : ItemRead) (s : S) : Type 0 where
  pub first : Item
  pub next : ℕ
  pub accepted : x ≡ item first next
  pub room : Room (expanded_item first) s

pub record MembersFit {S : Type 0} (Room : List Record → S → Type 0) (m : MembersRead) (s : S) : Type 0 where
  pub items : Items
  pub next : ℕ
  pub accepted : m ≡ members items next
  pub room : Room (expanded items) s

pub record TurnsFit {S : Type 0} (Room : List Record → S → Type 0) (n : ℕ) (m : MembersRead) (s : S) : Type 0 where
  pub items : Items
  pub next : ℕ
  pub accepted : m ≡ members items next
  pub room : Room (repeated n (expanded items)) s

-- a sheet's items from a place on are accepted, and the state has room for them
pub record SheetFits {S : Type 0} (Room : List Record → S → Type 0) (sheet : List ℕ) (at : ℕ) (s : S) : Type 0 where
  pub records : List Record
  pub accepted : expansion_from sheet at ≡ valid records
  pub room : Room records s

abbrev pub sheet_done : {S : Type 0} → (List Record → S → S) → Contents → S → S
sheet_done act (valid rs) s = act rs s
sheet_done act (refused n offset) s = s

-- where a sheet's items begin: after the record that says its edition, if it has one
unfoldable pub first_item : List ℕ → ℕ
first_item sheet = if (starts_second sheet) header_length 0

-- what `act_on` leaves: its answer and the actor
pub record Acted (S : Type 0) : Type 0 where
  pub answer : Measured
  pub actor : S

abbrev pub acted : {S : Type 0} → Measured → S → Acted S
acted a s = record { answer = a; actor = s }

-- the action on all records of a sheet, whose sums are the answer; a refused sheet and sums that the actor refuses (offset 0) leave it as it is
unfoldable pub acted_on : {S : Type 0} → (List Record → S → S) → (Totals → S → ℕ) → Contents → S → Acted S
acted_on act refusal (valid rs) s =
    if (eqb (refusal (sheet_totals rs) s) 0) (acted (Whole (sheet_totals rs)) (act rs s))
    (acted (MeasureRefused (refusal (sheet_totals rs) s) 0) s)
acted_on act refusal (refused n offset) s = acted (MeasureRefused n offset) s

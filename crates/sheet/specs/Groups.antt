-- Reading items: request 12's "A sheet whose first record is kind 0, count 2, address 0 .. is second edition and may hold groups"; "A group is read record by record and
-- a record may be a group, to a depth of 8."
use Rattle.std.specs.Prelude.{ℕ, zero, suc, ◌+◌, Bool, ◌&&◌, List, length, get_or, eqb, leb}
use Rattle.fields.specs.Fields.{if}
use Rattle.fields.specs.Refusals.{count_wrong, address_wrong, record_cut, group_deep}
use Rattle.sheet.specs.Reading.{Reading, End as NoRecord, Found, Refused as RecordRefused}
use Rattle.sheet.specs.Header.{Header, End, Single, Group, Refused}
use Rattle.sheet.specs.Records.{record_of, header_length, body_length, bytes_at}
use Rattle.sheet.specs.Reader.{marked, count_at, address_at, reading_at}
use Rattle.sheet.specs.Items.{Item, single, group, Items, none, then}

-- ---- headers

-- a header of a kind stands whole at a place
unfoldable pub opens_kind : ℕ → List ℕ → ℕ → Bool
opens_kind k sheet at = leb (at + header_length) (length sheet) && (marked sheet at && eqb (get_or sheet (at + 2) 0) k)

-- the first record is of kind 0: the sheet is of the second edition, or refused for that record
unfoldable pub starts_second : List ℕ → Bool
starts_second sheet = opens_kind 0 sheet 0

-- a group's header stands at a place; "41 for .. kind 5 in a first-edition sheet"
unfoldable pub opens_group : List ℕ → ℕ → Bool
opens_group sheet at = opens_kind 5 sheet at && starts_second sheet

-- "42 .. for 0 repetitions, 43 for .. a group of none, .. 52 for depth 9 right after 43": the refusal of a group where groups may stand so deep, counting itself;
-- 0 where there is none
unfoldable pub group_refusal : ℕ → List ℕ → ℕ → ℕ
group_refusal depth sheet at =
    if (eqb (count_at sheet at) 0) count_wrong
    (if (eqb (address_at sheet at) 0) address_wrong
    (if (eqb depth 0) group_deep
    0))

-- a record as the first edition has it; of kind 0, and in a first-edition sheet of kind 5, it is refused with 41
abbrev pub plain_header : Reading → Header
plain_header NoRecord = End
plain_header (Found k n a next) = Single k n a next
plain_header (RecordRefused n offset) = Refused n offset

-- what the header at a place says, where groups may stand so deep
unfoldable pub header_at : List ℕ → ℕ → ℕ → Header
header_at sheet depth at =
    if (opens_group sheet at)
    (if (eqb (group_refusal depth sheet at) 0) (Group (count_at sheet at) (address_at sheet at))
    (Refused (group_refusal depth sheet at) at))
    (plain_header (reading_at sheet at))

-- ---- items

-- what stands at a place: the sheet's end, an item with the place after it, or a refusal with its offset
pub data ItemRead : Type 0 where
  ended : ItemRead
  item : Item → ℕ → ItemRead
  refused : ℕ → ℕ → ItemRead

-- what stands inside a group: items with the place after them, or a refusal
pub data MembersRead : Type 0 where
  members : Items → ℕ → MembersRead
  broken : ℕ → ℕ → MembersRead

-- an item before others
abbrev pub before : Item → MembersRead → MembersRead
before i (members is next) = members (then i is) next
before i (broken n offset) = broken n offset

-- "44 at the sheet's end (offset its length) if records are missing"; f reads on
abbrev pub on_member : (ℕ → MembersRead) → ℕ → ItemRead → MembersRead
on_member f end ended = broken record_cut end
on_member f end (item i next) = before i (f next)
on_member f end (refused n offset) = broken n offset

-- "A group is read record by record": so many items from a place on, each read by f
unfoldable pub members_from : (ℕ → ItemRead) → ℕ → ℕ → ℕ → MembersRead
members_from f end zero at = members none at
members_from f end (suc k) at = on_member (members_from f end k) end (f at)

abbrev pub grouped : ℕ → MembersRead → ItemRead
grouped n (members is next) = item (group n is) next
grouped n (broken k offset) = refused k offset

-- the group whose first member is at a place
unfoldable pub group_from : (ℕ → ItemRead) → ℕ → ℕ → ℕ → ℕ → ItemRead
group_from f end at n k = grouped n (members_from f end k at)

-- by the header; f reads a group of so many repetitions and members
abbrev pub on_header : (ℕ → ℕ → ItemRead) → List ℕ → ℕ → Header → ItemRead
on_header f sheet at End = ended
on_header f sheet at (Single k n a next) = item (single (record_of k n a (bytes_at sheet (at + header_length) (body_length k n)))) next
on_header f sheet at (Group n k) = f n k
on_header f sheet at (Refused n offset) = refused n offset

-- the item at a place where groups may stand so deep; no group opens at depth 0
unfoldable pub item_at : List ℕ → ℕ → ℕ → ItemRead
item_at sheet zero at = on_header (λ n k. ended) sheet at (header_at sheet 0 at)
item_at sheet (suc depth) at =
    on_header (group_from (item_at sheet depth) (length sheet) (at + header_length)) sheet at (header_at sheet (suc depth) at)

-- so many items from a place on, where groups may stand so deep
abbrev pub members_at : List ℕ → ℕ → ℕ → ℕ → MembersRead
members_at sheet depth k at = members_from (item_at sheet depth) (length sheet) k at

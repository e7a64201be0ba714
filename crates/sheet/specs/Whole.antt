-- A sheet as bytes, of records and of items: document 01's "A sheet is records to its end, at most 131,072 bytes. Each: mark 9Eh 51h, kind, count n, address (16 bits), body", and its table.
use Rattle.std.specs.Prelude.{ℕ, suc, ◌%◌, ◌/◌, ◌<◌, ◌≡◌, true, List, [], ◌∷◌, ◌++◌, length, get_or}
use Rattle.sheet.specs.Records.{Record, kind_number, count_fits, address_fits, body_length, pads_fit}
use Rattle.sheet.specs.Items.{Item, single, group, Items, none as no_items, then}

-- the bytes of a record
abbrev pub record_bytes : Record → List ℕ
record_bytes r = 158 ∷ 81 ∷ kind_number r.kind ∷ r.count ∷ (r.address % 256) ∷ (r.address / 256) ∷ r.body

-- the bytes of a sheet of records
unfoldable pub sheet_bytes : List Record → List ℕ
sheet_bytes [] = []
sheet_bytes (r ∷ rs) = record_bytes r ++ sheet_bytes rs

-- a record that meets its row of the table
pub record MeetsRow (r : Record) : Type 0 where
  pub count : count_fits r.kind r.count ≡ true
  pub address : address_fits r.kind r.address ≡ true
  pub size : length r.body ≡ body_length r.kind r.count
  pub pads : pads_fit r.kind r.body 0 r.count ≡ true

-- every record meets its row
pub data AllMeet : List Record → Type 0 where
  none : AllMeet []
  more : {r : Record} {rs : List Record} → MeetsRow r → AllMeet rs → AllMeet (r ∷ rs)

-- a list of bytes
pub record Bytes (xs : List ℕ) : Type 0 where
  pub below : (i : ℕ) → get_or xs i 0 < 256

-- ---- the second edition

-- "a group counts as one record outside": how many items stand inside a group
unfoldable pub count_of : Items → ℕ
count_of no_items = 0
count_of (then i is) = suc (count_of is)

-- the bytes of an item: a record's, or "kind 5, count = repetitions 1 to 255, address = number of records inside, at least 1, which follow at once"
unfoldable mutual
  pub item_bytes : Item → List ℕ
  item_bytes (single r) = record_bytes r
  item_bytes (group n is) = 158 ∷ 81 ∷ 5 ∷ n ∷ (count_of is % 256) ∷ (count_of is / 256) ∷ items_bytes is

  pub items_bytes : Items → List ℕ
  items_bytes no_items = []
  items_bytes (then i is) = item_bytes i ++ items_bytes is

-- "kind 0, count 2, address 0 (no body ..)": the record that says the second edition
abbrev pub edition_bytes : List ℕ
edition_bytes = 158 ∷ 81 ∷ 0 ∷ 2 ∷ 0 ∷ 0 ∷ []

-- an item that meets its row: a record its own, a group "repetitions 1 to 255", "at least 1" inside, no more than 16 bits hold, and it stands where groups may stand
-- so deep
mutual
  pub data ItemMeets : ℕ → Item → Type 0 where
    record_meets : {depth : ℕ} {r : Record} → MeetsRow r → ItemMeets depth (single r)
    group_meets : {depth n : ℕ} {is : Items} → 0 < n → n < 256 → 0 < count_of is → count_of is < 65536 → ItemsMeet depth is → ItemMeets (suc depth) (group n is)

  pub data ItemsMeet : ℕ → Items → Type 0 where
    no_more : {depth : ℕ} → ItemsMeet depth no_items
    one_more : {depth : ℕ} {i : Item} {is : Items} → ItemMeets depth i → ItemsMeet depth is → ItemsMeet depth (then i is)

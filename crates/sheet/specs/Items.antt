-- Items: document 02's request 12, "groups: kind 5, count = repetitions 1 to 255, address = number of records inside, at least 1, which follow at once"; "Its meaning is
-- the inner records repeated in order; a group counts as one record outside."
use Rattle.std.specs.Prelude.{ℕ, zero, suc, List, [], ◌∷◌, ◌++◌}
use Rattle.sheet.specs.Records.{Record}

-- "a record may be a group": an item is a record, or a group with its repetitions and the items inside
mutual
  pub data Item : Type 0 where
    single : Record → Item
    group : ℕ → Items → Item

  pub data Items : Type 0 where
    none : Items
    then : Item → Items → Items

-- "repeated in order"
unfoldable pub repeated : ℕ → List Record → List Record
repeated zero rs = []
repeated (suc n) rs = rs ++ repeated n rs

-- the records that an item, and items, stand for: the expansion
unfoldable mutual
  pub expanded_item : Item → List Record
  expanded_item (single r) = r ∷ []
  expanded_item (group n is) = repeated n (expanded is)

  pub expanded : Items → List Record
  expanded none = []
  expanded (then i is) = expanded_item i ++ expanded is

-- Sheets of the second edition, computed.
use mathlib.Core.Path.{◌≡◌, refl}
use mathlib.Core.List.{List, [], ◌∷◌, ◌++◌}
use Prim.Native.Nat.{ℕ, zero, suc}
use native.Mathlib.Omega.{arith}
use lib.ListN.{length, replicate}
use Rattle.fields.specs.Fields.{if}
use Rattle.sheet.specs.declared.Kind.TheVariants.{Data, Start}
use Rattle.sheet.specs.ItemAnswer.{Found, Refused}
use Rattle.sheet.specs.Records.{Record, record_of}
use Rattle.sheet.specs.Reader.{valid, refused, marked, kind_of, row_refusal, record_refusal, reading_at, records_from, contents_from}
use Rattle.sheet.specs.Layout.{laid_out, chain_of}
use Rattle.sheet.specs.Items.{Item, single, group, Items, none, then, repeated, expanded_item, expanded}
use Rattle.sheet.specs.Whole.{MeetsRow, count_of, item_bytes, items_bytes, edition_bytes, ItemMeets, record_meets, group_meets, ItemsMeet, no_more, one_more}
use Rattle.sheet.specs.Groups.{opens_kind, starts_second, opens_group, group_refusal, header_at, members_from, group_from, item_at}
use Rattle.sheet.specs.Editions.{deepest, items_from, expansion_from, limited, edition_refusal, second_of, contents_of}
use Rattle.sheet.specs.Sums.{quadwords, sum_of, size_of, item_size, totals, totals_of, answered}
use Rattle.sheet.proofs.TakenLaws.{tree_length, tree_takes_all, tree_too_long}

-- a record without a body as bytes, and a start
abbrev head : ℕ → ℕ → ℕ → List ℕ
head k n a = 158 ∷ 81 ∷ k ∷ n ∷ a ∷ 0 ∷ []

abbrev start : ℕ → Record
start a = record_of Start 0 a []

-- groups one in another, the innermost with a start
abbrev nested : ℕ → List ℕ
nested zero = head 4 0 5
nested (suc n) = head 5 1 1 ++ nested n

pub small_sheets :
    -- twice: a start, and three times another
    (contents_of (edition_bytes ++ head 5 2 2 ++ head 4 0 1 ++ head 5 3 1 ++ head 4 0 2 ++ head 4 0 9)
    ≡ valid (start 1 ∷ start 2 ∷ start 2 ∷ start 2 ∷ start 1 ∷ start 2 ∷ start 2 ∷ start 2 ∷ start 9 ∷ []))
    -- the group's sums
    × (answered (item_at (edition_bytes ++ head 5 2 2 ++ head 4 0 1 ++ head 5 3 1 ++ head 4 0 2) 8 6) ≡ Found 30 (totals 16 40 8))
    -- eight deep, and nine
    × (contents_of (edition_bytes ++ nested 8) ≡ valid (start 5 ∷ []))
    × (contents_of (edition_bytes ++ nested 9) ≡ refused 52 54)
    -- 52 comes after 42 and 43
    × (answered (item_at (edition_bytes ++ head 5 0 0) 0 6) ≡ Refused 42 6)
    × (answered (item_at (edition_bytes ++ head 5 1 0) 0 6) ≡ Refused 43 6)
    × (answered (item_at (edition_bytes ++ head 5 1 1) 0 6) ≡ Refused 52 6)
    -- records missing, a header cut, a mark gone, a member refused
    × (contents_of (edition_bytes ++ head 5 2 2 ++ head 4 0 1) ≡ refused 44 18)
    × (contents_of (edition_bytes ++ head 5 2 2 ++ 158 ∷ 81 ∷ []) ≡ refused 44 12)
    × (contents_of (edition_bytes ++ head 5 2 1 ++ 158 ∷ 80 ∷ 4 ∷ 0 ∷ 1 ∷ 0 ∷ []) ≡ refused 40 12)
    × (contents_of (edition_bytes ++ head 5 2 1 ++ head 4 1 1) ≡ refused 42 12)
    -- kind 0 anywhere but first, its count, its address, kind 5 in a sheet of the first edition
    × (contents_of (edition_bytes ++ edition_bytes) ≡ refused 41 6)
    × (contents_of (edition_bytes ++ head 5 1 1 ++ edition_bytes) ≡ refused 41 12)
    × (contents_of (head 0 3 1) ≡ refused 42 0)
    × (contents_of (head 0 2 1) ≡ refused 43 0)
    × (contents_of (head 5 0 1 ++ head 4 0 1) ≡ refused 41 0)
    × (contents_of (head 4 0 1) ≡ valid (start 1 ∷ []))
    × (contents_of edition_bytes ≡ valid [])
unfolding contents_of second_of starts_second edition_refusal limited expansion_from items_from item_at group_from members_from header_at group_refusal opens_group opens_kind repeated expanded_item answered totals_of sum_of chain_of laid_out reading_at record_refusal row_refusal marked kind_of contents_from records_from if
small_sheets =
    (refl, refl, refl, refl, refl, refl, refl, refl, refl, refl, refl, refl, refl, refl, refl, refl, refl, refl)

-- ---- large sheets, by their sizes

-- groups of 255 repetitions one in another: 255 to the eighth starts
abbrev many : ℕ → Item
many zero = single (start 5)
many (suc n) = group 255 (then (many n) none)

abbrev one : Item → Items
one i = then i none

start_meets : MeetsRow (start 5)
start_meets = record { count = refl; address = refl; size = refl; pads = refl }

many_meets : (n : ℕ) → ItemMeets n (many n)
unfolding count_of
many_meets zero = record_meets start_meets
many_meets (suc n) = group_meets {n = 255} {is = one (many n)} (omega arith) (omega arith) (omega arith) (omega arith) (one_more (many_meets n) no_more)

many_meet : ItemsMeet deepest (one (many 8))
many_meet = one_more (many_meets 8) no_more

many_size : size_of quadwords (one (many 8)) ≡ 35756206695625781250
unfolding item_size
many_size = refl

many_short : length (edition_bytes ++ items_bytes (one (many 8))) ≡ 60
unfolding item_bytes
many_short = refl

pub nested_255 : contents_of (edition_bytes ++ items_bytes (one (many 8))) ≡ refused 49 0
nested_255 =
    let l = tree_length (one (many 8)) many_meet in
    let s = many_size in
    let b = many_short in
    tree_too_long (one (many 8)) many_meet (omega arith) (omega arith)

-- 255 times 255 vectors: 65,535 quadwords and the end tag
abbrev vectors : Record
vectors = record_of Data 255 7 (replicate 4080 0)

abbrev full : Item
full = group 255 (one (single vectors))

vectors_meet : MeetsRow vectors
vectors_meet = record { count = refl; address = refl; size = refl; pads = refl }

full_meets : ItemMeets 8 full
unfolding count_of
full_meets = group_meets {n = 255} {is = one (single vectors)} (omega arith) (omega arith) (omega arith) (omega arith) (one_more (record_meets vectors_meet) no_more)

full_bytes : length (edition_bytes ++ items_bytes (one full)) ≡ 4098
unfolding item_bytes
full_bytes = refl

full_size : size_of quadwords (one full) ≡ 65535
unfolding item_size
full_size = refl

full_meet : ItemsMeet deepest (one full)
full_meet = one_more full_meets no_more

full_length : length (chain_of (expanded (one full))) ≡ 1048576
full_length = let l = tree_length (one full) full_meet in let s = full_size in omega arith

pub longest_chain_lem : (length (chain_of (expanded (one full))) ≡ 1048576) × (contents_of (edition_bytes ++ items_bytes (one full)) ≡ valid (expanded (one full)))
longest_chain_lem =
    let l = full_length in
    let b = full_bytes in
    (l, tree_takes_all (one full) full_meet (omega arith) (omega arith))

-- and a start more
above_meet : ItemsMeet deepest (then full (one (single (start 5))))
above_meet = one_more full_meets (one_more (record_meets start_meets) no_more)

above_bytes : length (edition_bytes ++ items_bytes (then full (one (single (start 5))))) ≡ 4104
unfolding item_bytes
above_bytes = refl

above_size : size_of quadwords (then full (one (single (start 5)))) ≡ 65537
unfolding item_size
above_size = refl

pub above_longest : contents_of (edition_bytes ++ items_bytes (then full (one (single (start 5))))) ≡ refused 49 0
above_longest =
    let l = tree_length (then full (one (single (start 5)))) above_meet in
    let s = above_size in
    let b = above_bytes in
    tree_too_long (then full (one (single (start 5)))) above_meet (omega arith) (omega arith)

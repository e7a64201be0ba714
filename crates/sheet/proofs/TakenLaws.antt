-- The reader takes every sheet of the second edition whose items meet their rows and whose chain is not too long: the converse of `tree-loses-nothing`.
use mathlib.Core.Path.{◌≡◌, refl, sym, ◌∙◌}
use mathlib.Core.Bool.{true, false}
use mathlib.Core.List.{List, ◌∷◌, ◌++◌, append_assoc}
use Prim.Native.Nat.{ℕ, suc, ◌+◌, ◌*◌, ◌-◌, ◌%◌, ◌/◌, ◌<◌, ◌≤◌}
use native.Mathlib.Nat.{add-zero}
use native.Mathlib.Omega.{arith}
use borrow.Author.Tests.{le-leb, le-ltb, lt-ltb, ne_eqb}
use lib.ListN.{length, get_or, drop}
use lib.Seq.{get_or-drop, drop-drop}
use lib.Dec.{eqb, leb}
use Rattle.fields.specs.Fields.{if}
use Rattle.fields.specs.Refusals.{chain_long}
use Rattle.fields.proofs.ChoiceLaws.{and_false}
use Rattle.sheet.specs.declared.Kind.{Kind}
use Rattle.sheet.specs.declared.Kind.TheVariants.{Data, Code, Gs, Start}
use Rattle.sheet.specs.Header.{Single, Group}
use Rattle.sheet.specs.Records.{Record, longest, kind_number}
use Rattle.sheet.specs.Reader.{valid, refused, marked, address_at}
use Rattle.sheet.specs.Sizes.{sheet_steps}
use Rattle.sheet.specs.Layout.{chain_of}
use Rattle.sheet.specs.Items.{Item, single, group, Items, none, then, expanded}
use Rattle.sheet.specs.Whole.{record_bytes, MeetsRow, count_of, item_bytes, items_bytes, edition_bytes, ItemMeets, record_meets, group_meets, ItemsMeet, no_more, one_more}
use Rattle.sheet.specs.Groups.{opens_kind, starts_second, opens_group, group_refusal, header_at, item, members, members_from, group_from, item_at}
use Rattle.sheet.specs.Editions.{deepest, expansion_from, longest_chain, limited, edition_refusal, second_of, contents_of}
use Rattle.sheet.specs.Sums.{quadwords, steps, size_of}
use Rattle.sheet.proofs.ReaderLaws.{FoundThere}
use Rattle.sheet.proofs.LayoutLaws.{chain_length}
use Rattle.sheet.proofs.SumLaws.{items_size, quadwords_sum, steps_sum}
use Rattle.sheet.proofs.HeaderLaws.{header_group, header_plain}
use Rattle.sheet.proofs.ItemLaws.{item_single, item_group}
use Rattle.sheet.proofs.ExpansionLaws.{from_turn, from_past, expansion_meets}
use Rattle.sheet.proofs.EditionLaws.{within_limit}
use Rattle.sheet.proofs.AcceptLaws.{there_found, left_there, after, body, onward, there}

-- an item that stands at a place before others is read, and the others stand after it
record TakenItem (sheet : List ℕ) (depth at : ℕ) (i : Item) (rest : List ℕ) : Type 0 where
  next : ℕ
  found : item_at sheet depth at ≡ item i next
  others : drop next sheet ≡ rest

record TakenItems (sheet : List ℕ) (depth at : ℕ) (is : Items) (rest : List ℕ) : Type 0 where
  next : ℕ
  found : members_from (item_at sheet depth) (length sheet) (count_of is) at ≡ members is next
  others : drop next sheet ≡ rest

-- ---- a record

not_group : (k : Kind) → eqb (kind_number k) 5 ≡ false
not_group Data = refl
not_group Code = refl
not_group Gs = refl
not_group Start = refl

plain_there : (sheet : List ℕ) (at : ℕ) {k : Kind} {n a next : ℕ} → FoundThere sheet at k n a next → opens_group sheet at ≡ false
unfolding opens_group opens_kind
plain_there sheet at {k} f = rw (f.kind, not_group k, and_false (marked sheet at), and_false (leb (at + 6) (length sheet)))

record_taken : (sheet : List ℕ) (depth at : ℕ) (r : Record) (rest : List ℕ) → MeetsRow r → drop at sheet ≡ record_bytes r ++ rest → TakenItem sheet depth at (single r) rest
record_taken sheet depth at r rest m e =
    let f = there sheet at r rest m e in
    let h : header_at sheet depth at ≡ Single r.kind r.count r.address (after sheet at r rest m e) = sym (header_plain sheet depth at (plain_there sheet at f) (sym (there_found sheet at f))) in
    record {
      next = after sheet at r rest m e;
      found = item_single sheet at depth h ∙ rw (body sheet at r rest m e);
      others = onward sheet at r rest m e;
    }

-- ---- a group

module _ (sheet : List ℕ) (s : starts_second sheet ≡ true) (depth at n : ℕ) (is : Items) (rest : List ℕ)
    (some : 0 < n) (inner : 0 < count_of is) (e : drop at sheet ≡ item_bytes (group n is) ++ rest) where
  bytes : drop at sheet ≡ 158 ∷ 81 ∷ 5 ∷ n ∷ (count_of is % 256) ∷ (count_of is / 256) ∷ (items_bytes is ++ rest)
  unfolding item_bytes
  bytes = e

  byte : (i : ℕ) → get_or sheet (at + i) 0 ≡ get_or (158 ∷ 81 ∷ 5 ∷ n ∷ (count_of is % 256) ∷ (count_of is / 256) ∷ (items_bytes is ++ rest)) i 0
  byte i = sym (get_or-drop at sheet i 0) ∙ rw bytes

  inside : at + 6 ≤ length sheet
  inside = omega (arith, left_there sheet at bytes)

  first_byte : get_or sheet at 0 ≡ 158
  first_byte = rw add-zero at (byte 0)

  opened : opens_group sheet at ≡ true
  unfolding opens_group opens_kind marked
  opened = rw (le-leb (at + 6) (length sheet) inside, first_byte, byte 1, byte 2, s)

  address : address_at sheet at ≡ count_of is
  address = rw (byte 4, byte 5) (omega arith)

  unrefused : group_refusal (suc depth) sheet at ≡ 0
  unfolding group_refusal if
  unrefused =
      rw (byte 3, ne_eqb n 0 (λ z. omega arith), address, ne_eqb (count_of is) 0 (λ z. omega arith), ne_eqb (suc depth) 0 (λ z. omega arith))

  header : header_at sheet (suc depth) at ≡ Group n (count_of is)
  header = sym (header_group sheet (suc depth) at opened (sym unrefused) (sym (byte 3)) (sym address))

  inside_bytes : drop (at + 6) sheet ≡ items_bytes is ++ rest
  inside_bytes = rw (← drop-drop 6 at sheet, bytes)

  group_taken : TakenItems sheet depth (at + 6) is rest → TakenItem sheet (suc depth) at (group n is) rest
  unfolding group_from
  group_taken t =
      let d : suc depth - 1 ≡ depth = omega arith in
      record { next = t.next; found = item_group sheet at (suc depth) header ∙ rw (d, t.found); others = t.others }

-- ---- items

no_items_taken : (sheet : List ℕ) (depth at : ℕ) (rest : List ℕ) → drop at sheet ≡ rest → TakenItems sheet depth at none rest
unfolding members_from count_of
no_items_taken sheet depth at rest e = record { next = at; found = refl; others = e }

items_taken_more : (sheet : List ℕ) (depth at : ℕ) (i : Item) (is : Items) (rest : List ℕ) (a : TakenItem sheet depth at i (items_bytes is ++ rest))
    → TakenItems sheet depth a.next is rest
    → TakenItems sheet depth at (then i is) rest
unfolding members_from count_of
items_taken_more sheet depth at i is rest a o = record { next = o.next; found = rw (a.found, o.found); others = o.others }

mutual
  unfolding item_bytes

  item_taken : (sheet : List ℕ) → starts_second sheet ≡ true → {depth : ℕ} {i : Item} → ItemMeets depth i → (at : ℕ) (rest : List ℕ) → drop at sheet ≡ item_bytes i ++ rest
      → TakenItem sheet depth at i rest
  item_taken sheet s (record_meets {depth} {r} m) at rest e = record_taken sheet depth at r rest m e
  item_taken sheet s (group_meets {depth} {n} {is} some few inner wide ms) at rest e =
      group_taken sheet s depth at n is rest some inner e (items_taken sheet s ms (at + 6) rest (inside_bytes sheet s depth at n is rest some inner e))

  items_taken : (sheet : List ℕ) → starts_second sheet ≡ true → {depth : ℕ} {is : Items} → ItemsMeet depth is → (at : ℕ) (rest : List ℕ) → drop at sheet ≡ items_bytes is ++ rest
      → TakenItems sheet depth at is rest
  items_taken sheet s (no_more {depth}) at rest e = no_items_taken sheet depth at rest e
  items_taken sheet s (one_more {depth} {i} {is} m ms) at rest e =
      let a = item_taken sheet s m at (items_bytes is ++ rest) (e ∙ append_assoc (item_bytes i) (items_bytes is) rest) in
      items_taken_more sheet depth at i is rest a (items_taken sheet s ms a.next rest a.others)

-- the items that stand from a place on are read and expanded
tree_back : (sheet : List ℕ) → starts_second sheet ≡ true → {is : Items} → ItemsMeet deepest is → (at : ℕ) → drop at sheet ≡ items_bytes is → expansion_from sheet at ≡ valid (expanded is)
unfolding items_bytes expanded
tree_back sheet s no_more at e = from_past sheet at (omega (arith, left_there sheet at e))
tree_back sheet s (one_more {i = i} {is} m ms) at e =
    let a = item_taken sheet s m at (items_bytes is) e in
    from_turn sheet at ∙ rw (a.found, tree_back sheet s ms a.next a.others)

-- ---- sheets

edition_starts : (xs : List ℕ) → starts_second (edition_bytes ++ xs) ≡ true
unfolding starts_second opens_kind marked
edition_starts xs = rw (le-leb 6 (length (edition_bytes ++ xs)) (omega arith))

edition_accepted : (xs : List ℕ) → edition_refusal (edition_bytes ++ xs) ≡ 0
unfolding edition_refusal if
edition_accepted xs = refl

-- the items after the record that says the edition
module _ (is : Items) (ms : ItemsMeet deepest is) where
  abbrev sheet : List ℕ
  sheet = edition_bytes ++ items_bytes is

  items_read : expansion_from sheet 6 ≡ valid (expanded is)
  items_read = tree_back sheet (edition_starts (items_bytes is)) ms 6 refl

  -- the chain's length and the steps by the tree, without its expansion
  pub tree_length : length (chain_of (expanded is)) ≡ 16 * (size_of quadwords is + 1)
  tree_length =
      let c = chain_length (expansion_meets sheet 6 (expanded is) items_read) in
      let q = quadwords_sum (expanded is) in
      let z = items_size quadwords is in
      omega arith

  pub tree_steps : sheet_steps (expanded is) ≡ size_of steps is + 1
  tree_steps = steps_sum (expanded is) ∙ rw (items_size steps is)

  module _ (h : length (edition_bytes ++ items_bytes is) ≤ longest) where
    by_limit : contents_of (edition_bytes ++ items_bytes is) ≡ limited (valid (expanded is))
    unfolding contents_of second_of if
    by_limit = rw (le-ltb longest (length sheet) h, edition_starts (items_bytes is), edition_accepted (items_bytes is), items_read)

    pub tree_takes_all : length (chain_of (expanded is)) ≤ longest_chain → contents_of (edition_bytes ++ items_bytes is) ≡ valid (expanded is)
    tree_takes_all l = by_limit ∙ within_limit (expanded is) l

    pub tree_too_long : longest_chain < length (chain_of (expanded is)) → contents_of (edition_bytes ++ items_bytes is) ≡ refused chain_long 0
    unfolding limited if
    tree_too_long l = by_limit ∙ rw (lt-ltb longest_chain (length (chain_of (expanded is))) l)

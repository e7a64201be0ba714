-- What holds of every record read holds of the expansion; every record of it meets its row.
use mathlib.Core.Path.{◌≡◌, refl, sym, ◌∙◌}
use mathlib.Core.List.{List, [], ◌∷◌, ◌++◌}
use Prim.Native.Nat.{ℕ, zero, suc, ◌+◌, ◌-◌, ◌<◌, ◌≤◌}
use native.Mathlib.Omega.{arith}
use lib.ListN.{length}
use Rattle.sheet.specs.declared.Kind.{Kind}
use Rattle.sheet.specs.Reading.{Found}
use Rattle.sheet.specs.Records.{Record, record_of, body_length, bytes_at}
use Rattle.sheet.specs.Reader.{Contents, valid, refused, reading_at}
use Rattle.sheet.specs.Whole.{AllMeet, none as no_record, more}
use Rattle.sheet.proofs.ReaderLaws.{found_next}
use Rattle.sheet.proofs.WholeLaws.{found_meets}
use Rattle.sheet.specs.Header.{Header, End, Single, Group, Refused}
use Rattle.sheet.specs.Items.{Item, single, Items, none, repeated, expanded_item, expanded}
use Rattle.sheet.specs.Groups.{header_at}
use Rattle.sheet.specs.Groups.{ItemRead, ended, item, refused as itemRefused, members, members_from, group_from, item_at}
use Rattle.sheet.specs.Editions.{before_all, on_item, deepest, items_from, expansion_from}
use Rattle.sheet.proofs.HeaderLaws.{group_opens, single_found, header_past}
use Rattle.sheet.proofs.ItemLaws.{item_end, item_single, item_group, item_refused}
use Rattle.sheet.proofs.PlaceLaws.{members_first, group_inside, item_after}

-- ---- reading on

same_on : (f g : ℕ → Contents) (x : ItemRead) → ((i : Item) (next : ℕ) → x ≡ item i next → f next ≡ g next) → on_item f x ≡ on_item g x
same_on f g ended h = refl
same_on f g (item i next) h = rw (h i next refl)
same_on f g (itemRefused n offset) h = refl

-- past the sheet nothing is read
past : (sheet : List ℕ) (at : ℕ) (f : ℕ → Contents) → length sheet ≤ at → on_item f (item_at sheet deepest at) ≡ valid []
past sheet at f h = rw (item_end sheet at deepest (header_past sheet deepest at h))

-- enough items are all items
enough : (m n : ℕ) (sheet : List ℕ) (at : ℕ) → length sheet ≤ at + m → length sheet ≤ at + n → items_from m sheet at ≡ items_from n sheet at
unfolding items_from
enough zero zero sheet at p q = refl
enough zero (suc n) sheet at p q = sym (past sheet at (items_from n sheet) (omega arith))
enough (suc m) zero sheet at p q = past sheet at (items_from m sheet) (omega arith)
enough (suc m) (suc n) sheet at p q =
    same_on _ _ (item_at sheet deepest at) (λ i next h. let a = item_after sheet deepest at next i h in enough m n sheet next (omega arith) (omega arith))

pub from_turn : (sheet : List ℕ) (at : ℕ) → expansion_from sheet at ≡ on_item (expansion_from sheet) (item_at sheet deepest at)
unfolding expansion_from items_from
from_turn sheet at = enough (length sheet) (suc (length sheet)) sheet at (omega arith) (omega arith)

pub from_past : (sheet : List ℕ) (at : ℕ) → length sheet ≤ at → expansion_from sheet at ≡ valid []
from_past sheet at h = from_turn sheet at ∙ past sheet at (expansion_from sheet) h

-- ---- what holds of every record

module _ (sheet : List ℕ) (P : List Record → Type 0) (nothing : P []) (joins : (rs ss : List Record) → P rs → P ss → P (rs ++ ss))
    (one : (at : ℕ) (k : Kind) (n a next : ℕ) → reading_at sheet at ≡ Found k n a next → P (record_of k n a (bytes_at sheet (at + 6) (body_length k n)) ∷ [])) where
  again : (n : ℕ) (rs : List Record) → P rs → P (repeated n rs)
  unfolding repeated
  again zero rs p = nothing
  again (suc n) rs p = joins rs (repeated n rs) p (again n rs p)

  members_all : (f : ℕ → ItemRead) (end : ℕ) → ((at next : ℕ) (i : Item) → f at ≡ item i next → P (expanded_item i))
      → (k at : ℕ) {is : Items} {next : ℕ} → members_from f end k at ≡ members is next → P (expanded is)
  unfolding members_from expanded
  members_all f end law zero at {is} e = let s : none ≡ is = cc in rw (← s) nothing
  members_all f end law (suc k) at e =
      let s = members_first (members_from f end k) end (f at) e in
      rw s.whole (joins (expanded_item s.first) (expanded s.others) (law at s.place s.first s.found) (members_all f end law k s.place s.rest))

  header_all : (depth at : ℕ) → (0 < depth → (place next : ℕ) (i : Item) → item_at sheet (depth - 1) place ≡ item i next → P (expanded_item i))
      → (h : Header) {i : Item} {next : ℕ} → header_at sheet depth at ≡ h → item_at sheet depth at ≡ item i next → P (expanded_item i)
  unfolding group_from expanded_item
  header_all depth at law End p e = absurd (let q = item_end sheet at depth p in let z : ◌≡◌ {A = ℕ} 0 1 = cc in omega arith)
  header_all depth at law (Refused n offset) p e = absurd (let q = item_refused sheet at depth p in let z : ◌≡◌ {A = ℕ} 0 1 = cc in omega arith)
  header_all depth at law (Single k n a to) {i} p e =
      let q = item_single sheet at depth p in
      let s : single (record_of k n a (bytes_at sheet (at + 6) (body_length k n))) ≡ i = cc in
      rw (← s) (one at k n a to (single_found sheet depth at p))
  header_all depth at law (Group n k) p e =
      let o = group_opens sheet depth at p in
      let g = group_inside n (members_from (item_at sheet (depth - 1)) (length sheet) k (at + 6)) (sym (item_group sheet at depth p) ∙ e) in
      rw g.whole (again n (expanded g.items) (members_all (item_at sheet (depth - 1)) (length sheet) (law o.deep) k (at + 6) g.are))

  pub item_all : (depth at next : ℕ) (i : Item) → item_at sheet depth at ≡ item i next → P (expanded_item i)
  item_all zero at next i e = header_all 0 at (λ z. absurd (omega arith)) (header_at sheet 0 at) refl e
  item_all (suc depth) at next i e =
      let p : suc depth - 1 ≡ depth = omega arith in header_all (suc depth) at (rw p (λ z. item_all depth)) (header_at sheet (suc depth) at) refl e

  items_all : (m at : ℕ) (rs : List Record) → items_from m sheet at ≡ valid rs → P rs
  unfolding items_from
  items_all zero at rs e = let s : [] ≡ rs = cc in rw (← s) nothing
  items_all (suc m) at rs e = go (λ next. items_all m next) (item_at sheet deepest at) refl e
    where
      on : (i : Item) (next : ℕ) (c : Contents) → items_from m sheet next ≡ c → P (expanded_item i) → ((ss : List Record) → items_from m sheet next ≡ valid ss → P ss)
          → before_all (expanded_item i) c ≡ valid rs → P rs
      on i next (valid ss) q p law h = let s : expanded_item i ++ ss ≡ rs = cc in rw (← s) (joins (expanded_item i) ss p (law ss q))
      on i next (refused n offset) q p law h = absurd (let z : ◌≡◌ {A = ℕ} 0 1 = cc in omega arith)

      go : ((next : ℕ) (ss : List Record) → items_from m sheet next ≡ valid ss → P ss) → (x : ItemRead) → item_at sheet deepest at ≡ x → on_item (items_from m sheet) x ≡ valid rs → P rs
      go law ended q h = let s : [] ≡ rs = cc in rw (← s) nothing
      go law (item i next) q h = on i next (items_from m sheet next) refl (item_all deepest at next i q) (law next) h
      go law (itemRefused n offset) q h = absurd (let z : ◌≡◌ {A = ℕ} 0 1 = cc in omega arith)

  pub expansion_all : (at : ℕ) (rs : List Record) → expansion_from sheet at ≡ valid rs → P rs
  unfolding expansion_from
  expansion_all at rs e = items_all (length sheet) at rs e

-- ---- every record of the expansion meets its row

meets_append : (rs ss : List Record) → AllMeet rs → AllMeet ss → AllMeet (rs ++ ss)
meets_append rs ss no_record b = b
meets_append rs ss (more {rs = others} m a) b = more m (meets_append others ss a b)

pub expansion_meets : (sheet : List ℕ) (at : ℕ) (rs : List Record) → expansion_from sheet at ≡ valid rs → AllMeet rs
expansion_meets sheet at rs e =
    expansion_all sheet AllMeet no_record meets_append (λ place k n a next h. more (found_meets sheet place (found_next sheet place k n a next h)) no_record) at rs e

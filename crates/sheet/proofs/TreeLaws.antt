-- The reader loses nothing, in either edition: an accepted sheet is the bytes of its items after the record that says its edition, each item meets its row, and the sheet's
-- records are their expansion.
use mathlib.Core.Path.{◌≡◌, refl, sym, ◌∙◌}
use mathlib.Core.Bool.{true}
use mathlib.Core.List.{List, [], ◌∷◌, ◌++◌, append_assoc}
use Prim.Native.Nat.{ℕ, zero, suc, ◌+◌, ◌-◌, ◌%◌, ◌/◌, ◌<◌, ◌≤◌}
use native.Mathlib.Nat.{add-zero}
use native.Mathlib.Omega.{arith}
use borrow.Author.Tests.{eqb-true, not-false}
use lib.ListN.{length, get_or, drop, length-drop, drop_of_length-le}
use lib.Seq.{get_or-drop, drop-drop}
use lib.Dec.{eqb, leb}
use Rattle.fields.specs.Fields.{if}
use Rattle.fields.proofs.ChoiceLaws.{if_zero, and_left, and_right}
use Rattle.sheet.specs.Header.{Header, End, Single, Group, Refused}
use Rattle.sheet.specs.Records.{Record, record_of, body_length, bytes_at}
use Rattle.sheet.specs.Reader.{Contents, valid, refused, marked, count_at, address_at}
use Rattle.sheet.specs.Items.{Item, single, group, Items, none, then, expanded_item, expanded}
use Rattle.sheet.specs.Whole.{Bytes, count_of, item_bytes, items_bytes, edition_bytes, ItemMeets, record_meets, group_meets, ItemsMeet, no_more, one_more}
use Rattle.sheet.specs.Groups.{opens_kind, starts_second, opens_group, header_at, ItemRead, ended, item, refused as itemRefused, members, members_from, group_from, item_at}
use Rattle.sheet.specs.Editions.{before_all, on_item, deepest, items_from, expansion_from, edition_refusal, contents_of}
use Rattle.sheet.specs.Acts.{first_item}
use Rattle.sheet.proofs.ReaderLaws.{found_next}
use Rattle.sheet.proofs.WholeLaws.{six, refused_not, found_bytes, found_meets}
use Rattle.sheet.proofs.HeaderLaws.{starts_inside, group_opens, single_found}
use Rattle.sheet.proofs.ItemLaws.{item_end, item_single, item_group, item_refused}
use Rattle.sheet.proofs.PlaceLaws.{members_first, group_inside, item_after, ended_past}
use Rattle.sheet.proofs.EditionLaws.{Edition, first, second, edition, contents_items}

-- ---- headers

-- the bytes of a header of a kind that stands at a place
pub record HeaderThere (k : ℕ) (sheet : List ℕ) (at : ℕ) : Type 0 where
  pub first : get_or sheet at 0 ≡ 158
  pub second : get_or sheet (at + 1) 0 ≡ 81
  pub kind : get_or sheet (at + 2) 0 ≡ k

kind_there : (k : ℕ) (sheet : List ℕ) (at : ℕ) → opens_kind k sheet at ≡ true → HeaderThere k sheet at
unfolding opens_kind marked
kind_there k sheet at h =
    let p = and_right (leb (at + 6) (length sheet)) _ h in
    let m = and_left (marked sheet at) _ p in
    record {
      first = eqb-true _ _ (and_left _ _ m);
      second = eqb-true _ _ (and_right (eqb (get_or sheet at 0) 158) _ m);
      kind = eqb-true _ _ (and_right (marked sheet at) _ p);
    }

group_there : (sheet : List ℕ) (at : ℕ) → opens_group sheet at ≡ true → HeaderThere 5 sheet at
unfolding opens_group
group_there sheet at h = kind_there 5 sheet at (and_left _ _ h)

module _ (sheet : List ℕ) (b : Bytes sheet) where
  -- six bytes of a header, and what follows them
  header_bytes : {k at n a : ℕ} → HeaderThere k sheet at → at + 6 ≤ length sheet → n ≡ count_at sheet at → a ≡ address_at sheet at
      → drop at sheet ≡ 158 ∷ 81 ∷ k ∷ n ∷ (a % 256) ∷ (a / 256) ∷ drop (at + 6) sheet
  header_bytes {k} {at} {n} {a} h inside ne ae =
      let low : a % 256 ≡ get_or sheet (at + 4) 0 = omega (arith, b.below (at + 4)) in
      let high : a / 256 ≡ get_or sheet (at + 5) 0 = omega (arith, b.below (at + 4)) in
      six (drop at sheet) (rw length-drop (omega arith))
      ∙ simp (get_or-drop, drop-drop, add-zero, h.first, h.second, h.kind, ne, low, high)

  -- ---- an item stands between two places

  record Stands (depth at next : ℕ) (i : Item) : Type 0 where
    bytes : drop at sheet ≡ item_bytes i ++ drop next sheet
    meets : ItemMeets depth i

  record AllStand (depth at next k : ℕ) (is : Items) : Type 0 where
    bytes : drop at sheet ≡ items_bytes is ++ drop next sheet
    meets : ItemsMeet depth is
    count : count_of is ≡ k

  members_stand : (f : ℕ → ItemRead) (depth end : ℕ) → ((at next : ℕ) (i : Item) → f at ≡ item i next → Stands depth at next i)
      → (k at : ℕ) {is : Items} {next : ℕ} → members_from f end k at ≡ members is next → AllStand depth at next k is
  unfolding members_from items_bytes count_of
  members_stand f depth end law zero at {is} {next} e =
      let p : at ≡ next = cc in
      let s : none ≡ is = cc in
      rw (← s, ← p) (record { bytes = refl; meets = no_more; count = refl })
  members_stand f depth end law (suc k) at e =
      let s = members_first (members_from f end k) end (f at) e in
      let a = law at s.place s.first s.found in
      let o = members_stand f depth end law k s.place s.rest in
      rw s.whole
      (record {
        bytes = a.bytes ∙ rw (o.bytes, append_assoc);
        meets = one_more a.meets o.meets;
        count = rw o.count;
      })

  header_stands : (depth at : ℕ) → ((d : ℕ) → depth ≡ suc d → (place next : ℕ) (i : Item) → item_at sheet d place ≡ item i next → Stands d place next i)
      → (h : Header) {i : Item} {next : ℕ} → header_at sheet depth at ≡ h → item_at sheet depth at ≡ item i next → Stands depth at next i
  unfolding group_from item_bytes
  header_stands depth at law End p e = absurd (let q = item_end sheet at depth p in let z : ◌≡◌ {A = ℕ} 0 1 = cc in omega arith)
  header_stands depth at law (Refused n offset) p e = absurd (let q = item_refused sheet at depth p in let z : ◌≡◌ {A = ℕ} 0 1 = cc in omega arith)
  header_stands depth at law (Single k n a to) {i} {next} p e =
      let q = item_single sheet at depth p in
      let s : single (record_of k n a (bytes_at sheet (at + 6) (body_length k n))) ≡ i = cc in
      let t : to ≡ next = cc in
      let f = found_next sheet at k n a to (single_found sheet depth at p) in
      rw (← s, ← t) (record { bytes = found_bytes sheet b at f; meets = record_meets (found_meets sheet at f) })
  header_stands depth at law (Group n k) {i} {next} p e =
      let o = group_opens sheet depth at p in
      let d : depth ≡ suc (depth - 1) = let z = o.deep in omega arith in
      let g = group_inside n (members_from (item_at sheet (depth - 1)) (length sheet) k (at + 6)) (sym (item_group sheet at depth p) ∙ e) in
      let m = members_stand (item_at sheet (depth - 1)) (depth - 1) (length sheet) (law (depth - 1) d) k (at + 6) g.are in
      let few : n < 256 = let c = o.repetitions in let z = b.below (at + 3) in omega arith in
      let wide : k < 65536 = let c = o.count in let y = b.below (at + 4) in let z = b.below (at + 5) in omega arith in
      group_stands d g.whole (header_bytes (group_there sheet at o.opens) o.inside o.repetitions o.count) m o.some few o.inner wide
    where
      group_stands : {d : ℕ} {is : Items} → depth ≡ suc d → i ≡ group n is → drop at sheet ≡ 158 ∷ 81 ∷ 5 ∷ n ∷ (k % 256) ∷ (k / 256) ∷ drop (at + 6) sheet → AllStand d (at + 6) next k is
          → 0 < n → n < 256 → 0 < k → k < 65536 → Stands depth at next i
      group_stands {is = is} de w h m s f inner wide =
          rw (de, w)
          (record {
            bytes = h ∙ rw (m.bytes, m.count);
            meets = group_meets {is = is} s f (rw m.count inner) (rw m.count wide) m.meets;
          })

  item_stands : (depth at next : ℕ) (i : Item) → item_at sheet depth at ≡ item i next → Stands depth at next i
  item_stands zero at next i e = header_stands 0 at (λ d z. absurd (omega arith)) (header_at sheet 0 at) refl e
  item_stands (suc depth) at next i e =
      header_stands (suc depth) at (λ d z. let p : depth ≡ d = omega arith in rw (← p) (item_stands depth)) (header_at sheet (suc depth) at) refl e

  -- ---- the items of a sheet from a place on

  pub record Tree (at : ℕ) (rs : List Record) : Type 0 where
    pub items : Items
    pub bytes : drop at sheet ≡ items_bytes items
    pub meets : ItemsMeet deepest items
    pub expands : rs ≡ expanded items

  no_tree : (at : ℕ) {rs : List Record} → length sheet ≤ at → valid [] ≡ valid rs → Tree at rs
  unfolding items_bytes expanded
  no_tree at {rs} h e = let s : [] ≡ rs = cc in record { items = none; bytes = drop_of_length-le sheet h; meets = no_more; expands = sym s }

  tree_more : {at next : ℕ} {i : Item} {ss : List Record} → Stands deepest at next i → Tree next ss → Tree at (expanded_item i ++ ss)
  unfolding items_bytes expanded
  tree_more {i = i} s t =
      record { items = then i t.items; bytes = s.bytes ∙ rw t.bytes; meets = one_more s.meets t.meets; expands = rw t.expands }

  tree_on : (m at : ℕ) (rs : List Record) → length sheet ≤ at + m → items_from m sheet at ≡ valid rs → Tree at rs
  unfolding items_from
  tree_on zero at rs h e = no_tree at (omega arith) e
  tree_on (suc m) at rs h e = go (λ next. tree_on m next) (item_at sheet deepest at) refl e
    where
      on : (i : Item) (next : ℕ) (c : Contents) → items_from m sheet next ≡ c → Stands deepest at next i → ((ss : List Record) → items_from m sheet next ≡ valid ss → Tree next ss)
          → before_all (expanded_item i) c ≡ valid rs → Tree at rs
      on i next (valid ss) q s law p = let z : expanded_item i ++ ss ≡ rs = cc in rw (← z) (tree_more s (law ss q))
      on i next (refused n offset) q s law p = absurd (refused_not p)

      go : ((next : ℕ) (ss : List Record) → length sheet ≤ next + m → items_from m sheet next ≡ valid ss → Tree next ss)
          → (x : ItemRead) → item_at sheet deepest at ≡ x → on_item (items_from m sheet) x ≡ valid rs → Tree at rs
      go law ended q p = no_tree at (ended_past sheet deepest at q) p
      go law (item i next) q p =
          let a = item_after sheet deepest at next i q in
          on i next (items_from m sheet next) refl (item_stands deepest at next i q) (λ ss. law next ss (omega arith)) p
      go law (itemRefused n offset) q p = absurd (refused_not p)

  pub tree_from : (at : ℕ) (rs : List Record) → expansion_from sheet at ≡ valid rs → Tree at rs
  unfolding expansion_from
  tree_from at rs e = tree_on (length sheet) at rs (omega arith) e

-- ---- whole sheets

-- the record that says the edition, where there is one
unfoldable pub lead_of : List ℕ → List ℕ
lead_of sheet = if (starts_second sheet) edition_bytes []

module _ (sheet : List ℕ) (b : Bytes sheet) where
  edition_there : starts_second sheet ≡ true → HeaderThere 0 sheet 0
  unfolding starts_second
  edition_there s = kind_there 0 sheet 0 s

  edition_numbers : edition_refusal sheet ≡ 0 → (2 ≡ count_at sheet 0) × (0 ≡ address_at sheet 0)
  unfolding edition_refusal
  edition_numbers z =
      let p = if_zero _ _ (omega arith) z in
      let q = if_zero _ _ (omega arith) p.1 in
      (sym (eqb-true (count_at sheet 0) 2 (not-false _ p.0)), sym (eqb-true (address_at sheet 0) 0 (not-false _ q.0)))

  lead_by : {rs : List Record} → Edition sheet rs → sheet ≡ lead_of sheet ++ drop (first_item sheet) sheet
  unfolding lead_of first_item if
  lead_by (first s e) = rw s
  lead_by (second s z e) =
      let n = edition_numbers z in
      rw s (header_bytes sheet b {k = 0} {at = 0} {n = 2} {a = 0} (edition_there s) (starts_inside sheet s) n.0 n.1)

  -- what an accepted sheet is
  pub record Whole (rs : List Record) : Type 0 where
    pub items : Items
    pub bytes : sheet ≡ lead_of sheet ++ items_bytes items
    pub meets : ItemsMeet deepest items
    pub expands : rs ≡ expanded items

  pub tree_loses_nothing : (rs : List Record) → contents_of sheet ≡ valid rs → Whole rs
  tree_loses_nothing rs e =
      let t = tree_from sheet b (first_item sheet) rs (contents_items sheet rs e) in
      record { items = t.items; bytes = lead_by (edition sheet rs e) ∙ rw t.bytes; meets = t.meets; expands = t.expands }

-- Items that are read: what they are made of, and where they end.
use mathlib.Core.Path.{◌≡◌, refl, sym, ◌∙◌}
use mathlib.Core.List.{List}
use Prim.Native.Nat.{ℕ, zero, suc, ◌+◌, ◌-◌, ◌<◌, ◌≤◌}
use native.Mathlib.Omega.{arith}
use lib.ListN.{length}
use Rattle.sheet.proofs.ReaderLaws.{found_next}
use Rattle.sheet.specs.declared.sums.Totals.{Totals}
use Rattle.sheet.specs.Header.{Header, End, Single, Group, Refused}
use Rattle.sheet.specs.ItemAnswer.{Found}
use Rattle.sheet.specs.Items.{Item, group, Items, then}
use Rattle.sheet.specs.Groups.{header_at}
use Rattle.sheet.specs.Groups.{ItemRead, ended, item, refused, MembersRead, members, broken, before, on_member, members_from, grouped, group_from, item_at}
use Rattle.sheet.specs.Sums.{answered}
use Rattle.sheet.proofs.HeaderLaws.{group_opens, single_found, header_end}
use Rattle.sheet.proofs.ItemLaws.{item_end, item_single, item_group, item_refused}

-- members that are read begin with an item that is read, and others after it
pub record First (g : ℕ → MembersRead) (x : ItemRead) (is : Items) (next : ℕ) : Type 0 where
  pub first : Item
  pub place : ℕ
  pub others : Items
  pub found : x ≡ item first place
  pub rest : g place ≡ members others next
  pub whole : is ≡ then first others

first_of : (g : ℕ → MembersRead) (i : Item) (at : ℕ) (m : MembersRead) {is : Items} {next : ℕ} → g at ≡ m → before i m ≡ members is next → First g (item i at) is next
first_of g i at (members js to) p e = record { first = i; place = at; others = js; found = refl; rest = p ∙ cc; whole = cc }
first_of g i at (broken k offset) p e = absurd (let z : ◌≡◌ {A = ℕ} 0 1 = cc in omega arith)

pub members_first : (g : ℕ → MembersRead) (end : ℕ) (x : ItemRead) {is : Items} {next : ℕ} → on_member g end x ≡ members is next → First g x is next
members_first g end ended e = absurd (let z : ◌≡◌ {A = ℕ} 0 1 = cc in omega arith)
members_first g end (item i at) e = first_of g i at (g at) refl e
members_first g end (refused k offset) e = absurd (let z : ◌≡◌ {A = ℕ} 0 1 = cc in omega arith)

-- a group that is read has members that are read
pub record Inside (n : ℕ) (m : MembersRead) (i : Item) (next : ℕ) : Type 0 where
  pub items : Items
  pub are : m ≡ members items next
  pub whole : i ≡ group n items

pub group_inside : (n : ℕ) (m : MembersRead) {i : Item} {next : ℕ} → grouped n m ≡ item i next → Inside n m i next
group_inside n (members is to) e = record { items = is; are = cc; whole = cc }
group_inside n (broken k offset) e = absurd (let z : ◌≡◌ {A = ℕ} 0 1 = cc in omega arith)

-- ---- where an item ends

pub record After (at next end : ℕ) : Type 0 where
  pub past : at + 6 ≤ next
  pub inside : next ≤ end

pub members_after : (f : ℕ → ItemRead) (end : ℕ) → ((at next : ℕ) (i : Item) → f at ≡ item i next → After at next end)
    → (k at : ℕ) {is : Items} {next : ℕ} → at ≤ end → members_from f end k at ≡ members is next → (at ≤ next) × (next ≤ end)
unfolding members_from
members_after f end law zero at {is} {next} h e = let p : at ≡ next = cc in (omega arith, omega arith)
members_after f end law (suc k) at h e =
    let s = members_first (members_from f end k) end (f at) e in
    let a = law at s.place s.first s.found in
    let b = members_after f end law k s.place a.inside s.rest in
    (omega arith, omega arith)

module _ (sheet : List ℕ) (depth at : ℕ) (law : 0 < depth → (place next : ℕ) (i : Item) → item_at sheet (depth - 1) place ≡ item i next → After place next (length sheet)) where
  by_header : (h : Header) {i : Item} {next : ℕ} → header_at sheet depth at ≡ h → item_at sheet depth at ≡ item i next → After at next (length sheet)
  unfolding group_from
  by_header End p e = absurd (let q = item_end sheet at depth p in let z : ◌≡◌ {A = ℕ} 0 1 = cc in omega arith)
  by_header (Refused n offset) p e = absurd (let q = item_refused sheet at depth p in let z : ◌≡◌ {A = ℕ} 0 1 = cc in omega arith)
  by_header (Single k n a to) {i} {next} p e =
      let q = item_single sheet at depth p in
      let s : to ≡ next = cc in
      let t = found_next sheet at k n a to (single_found sheet depth at p) in
      record { past = omega arith; inside = omega arith }
  by_header (Group n k) p e =
      let o = group_opens sheet depth at p in
      let g = group_inside n (members_from (item_at sheet (depth - 1)) (length sheet) k (at + 6)) (sym (item_group sheet at depth p) ∙ e) in
      let m = members_after (item_at sheet (depth - 1)) (length sheet) (law o.deep) k (at + 6) o.inside g.are in
      record { past = m.0; inside = m.1 }

pub item_after : (sheet : List ℕ) (depth at next : ℕ) (i : Item) → item_at sheet depth at ≡ item i next → After at next (length sheet)
item_after sheet zero at next i e = by_header sheet 0 at (λ z. absurd (omega arith)) (header_at sheet 0 at) refl e
item_after sheet (suc depth) at next i e =
    let p : suc depth - 1 ≡ depth = omega arith in by_header sheet (suc depth) at (rw p (λ z. item_after sheet depth)) (header_at sheet (suc depth) at) refl e

-- the same of what the record reader answers
found_item : (x : ItemRead) {next : ℕ} {t : Totals} → answered x ≡ Found next t → (i : Item) × (x ≡ item i next)
unfolding answered
found_item ended e = absurd (let z : ◌≡◌ {A = ℕ} 0 1 = cc in omega arith)
found_item (item i to) e = (i, cc)
found_item (refused k offset) e = absurd (let z : ◌≡◌ {A = ℕ} 0 1 = cc in omega arith)

pub answer_after : (sheet : List ℕ) (depth at : ℕ) {next : ℕ} {t : Totals} → Found next t ≡ answered (item_at sheet depth at) → After at next (length sheet)
answer_after sheet depth at {next} e = let f = found_item (item_at sheet depth at) (sym e) in item_after sheet depth at next f.0 f.1

-- ---- what is no end

grouped_item : (n : ℕ) (m : MembersRead) → grouped n m ≡ ended → ⊥
grouped_item n (members is next) e = let z : ◌≡◌ {A = ℕ} 0 1 = cc in omega arith
grouped_item n (broken k offset) e = let z : ◌≡◌ {A = ℕ} 0 1 = cc in omega arith

-- the end is past the sheet: inside it there is an item or a refusal
module _ (sheet : List ℕ) (depth at : ℕ) where
  past_by : (h : Header) → header_at sheet depth at ≡ h → item_at sheet depth at ≡ ended → length sheet ≤ at
  unfolding group_from
  past_by End p e = header_end sheet depth at p
  past_by (Refused n offset) p e = absurd (let q = item_refused sheet at depth p in let z : ◌≡◌ {A = ℕ} 0 1 = cc in omega arith)
  past_by (Single k n a next) p e = absurd (let q = item_single sheet at depth p in let z : ◌≡◌ {A = ℕ} 0 1 = cc in omega arith)
  past_by (Group n k) p e = absurd (grouped_item n (members_from (item_at sheet (depth - 1)) (length sheet) k (at + 6)) (sym (item_group sheet at depth p) ∙ e))

  pub ended_past : item_at sheet depth at ≡ ended → length sheet ≤ at
  ended_past e = past_by (header_at sheet depth at) refl e

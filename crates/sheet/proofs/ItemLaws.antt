-- Reading items, one turn at a time.
use mathlib.Core.Path.{◌≡◌, refl, sym, ◌∙◌}
use mathlib.Core.List.{List}
use Prim.Native.Nat.{ℕ, zero, suc, ◌+◌, ◌-◌, ◌<◌, ◌≤◌}
use native.Mathlib.Omega.{arith}
use lib.ListN.{length}
use Rattle.sheet.specs.declared.Kind.{Kind}
use Rattle.sheet.specs.Records.{record_of, body_length, bytes_at}
use Rattle.sheet.specs.Sizes.{record_quadwords, record_steps, entries_of}
use Rattle.sheet.specs.declared.sums.Totals.{Totals}
use Rattle.sheet.specs.Header.{End, Single, Group, Refused}
use Rattle.sheet.specs.ItemAnswer.{ItemAnswer}
use Rattle.sheet.specs.ItemAnswer.{End as NoItem, Found, Refused as ItemRefused}
use Rattle.sheet.specs.Items.{Item, single, expanded_item, expanded}
use Rattle.sheet.specs.Groups.{header_at}
use Rattle.sheet.specs.Groups.{ItemRead, ended, item, refused, MembersRead, members, broken, before, on_member, members_from, grouped, group_from, item_at}
use Rattle.sheet.specs.Sums.{totals, capped_totals, totals_of, joined, scaled, answered, answered_from}
use Rattle.sheet.proofs.SumLaws.{totals_append, totals_repeated, joined_more, joined_first, joined_last, totals_one}
use Rattle.sheet.proofs.HeaderLaws.{group_opens}

-- ---- an item by its header

module _ (sheet : List ℕ) (at : ℕ) where
  pub item_end : (depth : ℕ) → header_at sheet depth at ≡ End → item_at sheet depth at ≡ ended
  unfolding item_at
  item_end zero q = rw q
  item_end (suc depth) q = rw q

  pub item_single : (depth : ℕ) {k : Kind} {n a next : ℕ} → header_at sheet depth at ≡ Single k n a next
      → item_at sheet depth at ≡ item (single (record_of k n a (bytes_at sheet (at + 6) (body_length k n)))) next
  unfolding item_at
  item_single zero q = rw q
  item_single (suc depth) q = rw q

  pub item_refused : (depth : ℕ) {n offset : ℕ} → header_at sheet depth at ≡ Refused n offset → item_at sheet depth at ≡ refused n offset
  unfolding item_at
  item_refused zero q = rw q
  item_refused (suc depth) q = rw q

  pub item_group : (depth : ℕ) {n k : ℕ} → header_at sheet depth at ≡ Group n k
      → item_at sheet depth at ≡ group_from (item_at sheet (depth - 1)) (length sheet) (at + 6) n k
  unfolding item_at
  item_group zero q = absurd (let o = group_opens sheet 0 at q in omega arith)
  item_group (suc depth) q = let e : suc depth - 1 ≡ depth = omega arith in rw (q, e)

-- ---- what the record reader answers

module _ (sheet : List ℕ) (depth at : ℕ) where
  pub answers_end : End ≡ header_at sheet depth at → NoItem ≡ answered (item_at sheet depth at)
  unfolding answered
  answers_end q = rw (item_end sheet at depth (sym q))

  pub answers_single : {k : Kind} {n a next : ℕ} {t : Totals} → Single k n a next ≡ header_at sheet depth at
      → t ≡ capped_totals (record_quadwords k n) (record_steps k n) (entries_of k n) → Found next t ≡ answered (item_at sheet depth at)
  unfolding expanded_item answered
  answers_single q te = rw (item_single sheet at depth (sym q), totals_one, te)

  pub answers_refused : {n offset : ℕ} → Refused n offset ≡ header_at sheet depth at → ItemRefused n offset ≡ answered (item_at sheet depth at)
  unfolding answered
  answers_refused q = rw (item_refused sheet at depth (sym q))

  pub answers_group : {n k : ℕ} {r : ItemAnswer} → Group n k ≡ header_at sheet depth at → r ≡ answered (group_from (item_at sheet (depth - 1)) (length sheet) (at + 6) n k)
      → r ≡ answered (item_at sheet depth at)
  answers_group q re = rw (item_group sheet at depth (sym q)) re

  pub opened : {n k : ℕ} → Group n k ≡ header_at sheet depth at → (0 < depth) × (at + 6 ≤ length sheet)
  opened q = let o = group_opens sheet depth at (sym q) in (o.deep, o.inside)

-- ---- what the group reader answers

-- from the first member on
begins_by : (n : ℕ) (m : MembersRead) → answered_from n (totals 0 0 0) m ≡ answered (grouped n m)
unfolding answered answered_from expanded_item
begins_by n (members is next) = rw (joined_first (expanded is), totals_repeated n (expanded is))
begins_by n (broken k offset) = refl

pub begins : (f : ℕ → ItemRead) (end at n k : ℕ) {s : Totals} → s ≡ totals 0 0 0 → answered_from n s (members_from f end k at) ≡ answered (group_from f end at n k)
unfolding group_from
begins f end at n k e = rw e (begins_by n (members_from f end k at))

-- an item more
more : (n : ℕ) (t : Totals) (i : Item) (m : MembersRead) → answered_from n t (before i m) ≡ answered_from n (joined t (totals_of (expanded_item i))) m
unfolding expanded answered_from
more n t i (members is next) = rw (totals_append (expanded_item i) (expanded is), joined_more t (totals_of (expanded_item i)) (totals_of (expanded is)))
more n t i (broken k offset) = refl

module _ (n : ℕ) (t : Totals) (g : ℕ → MembersRead) (end : ℕ) where
  turn_end : (x : ItemRead) → answered x ≡ NoItem → answered_from n t (on_member g end x) ≡ ItemRefused 44 end
  unfolding answered answered_from
  turn_end ended q = refl
  turn_end (item i next) q = absurd (let z : ◌≡◌ {A = ℕ} 0 1 = cc in omega arith)
  turn_end (refused k offset) q = absurd (let z : ◌≡◌ {A = ℕ} 0 1 = cc in omega arith)

  turn_refused : {k offset : ℕ} (x : ItemRead) → answered x ≡ ItemRefused k offset → answered_from n t (on_member g end x) ≡ ItemRefused k offset
  unfolding answered answered_from
  turn_refused ended q = absurd (let z : ◌≡◌ {A = ℕ} 0 1 = cc in omega arith)
  turn_refused (item i next) q = absurd (let z : ◌≡◌ {A = ℕ} 0 1 = cc in omega arith)
  turn_refused (refused k offset) q = q

  turn_found : {next : ℕ} {u : Totals} (x : ItemRead) → answered x ≡ Found next u → answered_from n t (on_member g end x) ≡ answered_from n (joined t u) (g next)
  unfolding answered
  turn_found ended q = absurd (let z : ◌≡◌ {A = ℕ} 0 1 = cc in omega arith)
  turn_found {next} {u} (item i at) q =
      let p : at ≡ next = cc in
      let s : totals_of (expanded_item i) ≡ u = cc in
      more n t i (g at) ∙ rw (p, s)
  turn_found (refused k offset) q = absurd (let z : ◌≡◌ {A = ℕ} 0 1 = cc in omega arith)

module _ (f : ℕ → ItemRead) (end n : ℕ) (t : Totals) (left at : ℕ) {x : ItemAnswer} (e : answered_from n t (members_from f end left at) ≡ x) where
  turn : {rest : ℕ} → left ≡ suc rest → answered_from n t (on_member (members_from f end rest) end (f at)) ≡ x
  unfolding members_from
  turn s = rw s at e

  pub members_end : 0 < left → NoItem ≡ answered (f at) → ItemRefused 44 end ≡ x
  members_end some q = sym (turn_end n t (members_from f end (left - 1)) end (f at) (sym q)) ∙ turn (omega arith)

  pub members_refused : 0 < left → {k offset : ℕ} → ItemRefused k offset ≡ answered (f at) → ItemRefused k offset ≡ x
  members_refused some q = sym (turn_refused n t (members_from f end (left - 1)) end (f at) (sym q)) ∙ turn (omega arith)

  pub members_more : {rest next : ℕ} {u s : Totals} → left ≡ suc rest → Found next u ≡ answered (f at) → s ≡ joined t u
      → answered_from n s (members_from f end rest next) ≡ x
  members_more {rest} {next} {u} some q se = rw se (sym (turn_found n t (members_from f end rest) end (f at) (sym q)) ∙ turn some)

-- no member left
pub members_none : (f : ℕ → ItemRead) (end n : ℕ) (t : Totals) (left at : ℕ) {x : ItemAnswer} {s : Totals}
    → answered_from n t (members_from f end left at) ≡ x → left ≡ 0 → s ≡ scaled n t → Found at s ≡ x
unfolding members_from expanded answered_from
members_none f end n t left at e z se = rw (se, ← joined_last n t) (rw z at e)

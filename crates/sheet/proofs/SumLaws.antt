-- Sums over the expansion, and sums that stop.
use mathlib.Core.Path.{◌≡◌, refl, ◌∙◌}
use mathlib.Core.List.{List, [], ◌∷◌, ◌++◌}
use Prim.Native.Nat.{ℕ, zero, suc, ◌+◌, ◌*◌, ◌≤◌}
use native.Mathlib.Nat.{add-zero, zero-add, add_assoc, zero-mul, min-eq_left, min-eq_right}
use native.Mathlib.Omega.{arith}
use mathlib.Core.Bool.{Bool, true, false}
use lib.Dec.{leb}
use borrow.Author.Tests.{leb-true, leb-false}
use Rattle.sheet.specs.Records.{Record}
use Rattle.sheet.specs.Sizes.{sheet_quadwords, sheet_steps, sheet_entries}
use Rattle.sheet.specs.declared.sums.Totals.{Totals}
use Rattle.sheet.specs.Items.{Item, single, group, Items, none, then, repeated, expanded_item, expanded}
use Rattle.sheet.specs.Sums.{sum_of, quadwords, steps, entries, item_size, size_of, most, capped, totals, capped_totals, totals_of, joined, scaled}

-- ---- sums

module _ (f : Record → ℕ) where
  pub sum_append : (rs ss : List Record) → sum_of f (rs ++ ss) ≡ sum_of f rs + sum_of f ss
  unfolding sum_of
  sum_append [] ss = rw zero-add
  sum_append (r ∷ rs) ss = rw (sum_append rs ss, add_assoc)

  pub sum_repeated : (n : ℕ) (rs : List Record) → sum_of f (repeated n rs) ≡ n * sum_of f rs
  unfolding sum_of repeated
  sum_repeated zero rs = rw zero-mul
  sum_repeated (suc n) rs = sum_append rs (repeated n rs) ∙ rw (sum_repeated n rs) (omega arith)

-- a tree's size is the sum over its expansion
mutual
  unfolding sum_of expanded_item item_size

  pub item_size_lem : (f : Record → ℕ) (i : Item) → item_size f i ≡ sum_of f (expanded_item i)
  item_size_lem f (single r) = rw add-zero
  item_size_lem f (group n is) = rw (items_size f is, sum_repeated f n (expanded is))

  pub items_size : (f : Record → ℕ) (is : Items) → size_of f is ≡ sum_of f (expanded is)
  items_size f none = refl
  items_size f (then i is) = rw (item_size_lem f i, items_size f is, sum_append f (expanded_item i) (expanded is))

-- the sums of a sheet count the end tag
pub quadwords_sum : (rs : List Record) → sheet_quadwords rs ≡ sum_of quadwords rs + 1
unfolding sheet_quadwords sum_of
quadwords_sum [] = refl
quadwords_sum (r ∷ rs) = rw (quadwords_sum rs, add_assoc)

pub steps_sum : (rs : List Record) → sheet_steps rs ≡ sum_of steps rs + 1
unfolding sheet_steps sum_of
steps_sum [] = refl
steps_sum (r ∷ rs) = rw (steps_sum rs, add_assoc)

pub entries_sum : (rs : List Record) → sheet_entries rs ≡ sum_of entries rs + 0
unfolding sheet_entries sum_of
entries_sum [] = refl
entries_sum (r ∷ rs) = omega (arith, entries_sum rs)

-- ---- sums that stop

capped_small : (a : ℕ) → a ≤ most → capped a ≡ a
capped_small a h = min-eq_left h

capped_large : (a : ℕ) → most ≤ a → capped a ≡ most
capped_large a h = min-eq_right h

pub capped_plus : (a b : ℕ) → capped (capped a + capped b) ≡ capped (a + b)
capped_plus a b = omega arith

pub capped_times : (n a : ℕ) → capped (n * capped a) ≡ capped (n * a)
capped_times zero a = rw (zero-mul, zero-mul a)
capped_times (suc n) a = go (leb a most) refl
  where
    go : (b : Bool) → leb a most ≡ b → capped (suc n * capped a) ≡ capped (suc n * a)
    go true e = rw (capped_small a (leb-true a most e))
    go false e = let h = leb-false a most e in rw (capped_large a (omega arith)) (omega arith)

-- the sums of records one after another, and of records so many times
pub totals_append : (rs ss : List Record) → totals_of (rs ++ ss) ≡ joined (totals_of rs) (totals_of ss)
unfolding totals_of joined
totals_append rs ss =
    rw (sum_append quadwords rs ss, sum_append steps rs ss, sum_append entries rs ss)
    (rw (capped_plus (sum_of quadwords rs) (sum_of quadwords ss), capped_plus (sum_of steps rs) (sum_of steps ss), capped_plus (sum_of entries rs) (sum_of entries ss)))

pub totals_repeated : (n : ℕ) (rs : List Record) → totals_of (repeated n rs) ≡ scaled n (totals_of rs)
unfolding totals_of scaled
totals_repeated n rs =
    rw (sum_repeated quadwords n rs, sum_repeated steps n rs, sum_repeated entries n rs)
    (rw (capped_times n (sum_of quadwords rs), capped_times n (sum_of steps rs), capped_times n (sum_of entries rs)))

-- sums that go on
stops_more : (t a b : ℕ) → capped (t + capped (a + b)) ≡ capped (capped (t + a) + b)
stops_more t a b = omega arith

pub joined_more : (t u v : Totals) → joined t (joined u v) ≡ joined (joined t u) v
unfolding joined
joined_more t u v =
    rw (stops_more t.quadwords u.quadwords v.quadwords, stops_more t.steps u.steps v.steps, stops_more t.entries u.entries v.entries)

-- from nothing on, and with nothing more
from_zero : (a : ℕ) → capped (0 + capped a) ≡ capped a
from_zero a = omega arith

pub joined_first : (rs : List Record) → joined (totals 0 0 0) (totals_of rs) ≡ totals_of rs
unfolding totals_of joined
joined_first rs = rw (from_zero (sum_of quadwords rs), from_zero (sum_of steps rs), from_zero (sum_of entries rs))

none_more : (n a : ℕ) → capped (n * capped (a + capped 0)) ≡ capped (n * a)
none_more n a = let e : capped (a + capped 0) ≡ capped a = omega arith in rw e (capped_times n a)

pub joined_last : (n : ℕ) (t : Totals) → scaled n (joined t (totals_of [])) ≡ scaled n t
unfolding totals_of sum_of joined scaled
joined_last n t = rw (none_more n t.quadwords, none_more n t.steps, none_more n t.entries)

-- one record
pub totals_one : (r : Record) → totals_of (r ∷ []) ≡ capped_totals (quadwords r) (steps r) (entries r)
unfolding totals_of sum_of
totals_one r = simp add-zero

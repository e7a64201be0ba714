-- Sums that fit.
use mathlib.Core.Path.{◌≡◌, refl, sym, ◌∙◌}
use mathlib.Core.Bool.{Bool, true, false, ◌||◌}
use mathlib.Core.List.{List, [], ◌∷◌}
use Prim.Native.Nat.{ℕ, zero, suc, ◌+◌, ◌-◌, ◌^◌, ◌<◌}
use native.Mathlib.Omega.{arith}
use borrow.Author.Tests.{ltb-false, lt-ltb, le-ltb}
use lib.ListN.{get_or}
use Rattle.std.specs.Prelude.{Option, Some, None}
use Rattle.std.specs.Option.{ok_or}
use Rattle.fields.specs.declared.Qwc.{Qwc}
use Rattle.fields.specs.declared.Counts.{Counts}
use Rattle.fields.specs.Counts.{qwcs, plus_qwc, qwc_numbers}
use Rattle.fields.specs.Fields.{if}
use Rattle.fields.specs.declared.refusals.Refusal.TheVariants.{TotalFull}
use Rattle.fields.proofs.ChoiceLaws.{if_ind}
use Rattle.totals.specs.AddAnswer.{Added}
use Rattle.totals.specs.declared.Totals.{Totals}
use Rattle.totals.specs.Totals.{totals, numbers_of, added, passes, any_passes, AddResult, added_by, add_of}
use Rattle.totals.specs.Inner.{qwc_added, sums_added}

-- a checked sum that is none
abbrev pub Full : ℕ → Type 0
Full n = n < 2 ^ 64 → ⊥

-- and one that is some
abbrev pub Sum : ℕ → ℕ → Type 0
Sum n v = (n < 2 ^ 64) × (v ≡ n)

does_pass : (n : ℕ) → Full n → passes n ≡ true
unfolding passes
does_pass n h = lt-ltb (2 ^ 64 - 1) n (omega arith)

does_not : {n v : ℕ} → Sum n v → passes n ≡ false
unfolding passes
does_not {n} h = le-ltb (2 ^ 64 - 1) n (omega (arith, h.0))

-- one of the numbers passes
one_passes : (ns : List ℕ) (k : ℕ) → Full (get_or ns k 0) → any_passes ns ≡ true
unfolding any_passes
one_passes [] k h = absurd (h (omega arith))
one_passes (n ∷ ns) zero h = rw (does_pass n h) refl
one_passes (n ∷ ns) (suc k) h = or_last (passes n) (one_passes ns k h)
  where
    or_last : (a : Bool) {b : Bool} → b ≡ true → (a || b) ≡ true
    or_last true h = refl
    or_last false h = h

module _ (a b : Qwc) where
  -- the sum of ID k passes
  pub qwc_none : (k : ℕ) {x : Option Qwc} → x ≡ None → Full (get_or (qwc_numbers (plus_qwc a b)) k 0) → x ≡ qwc_added a b
  unfolding qwc_added if
  qwc_none k e h = rw (e, one_passes (qwc_numbers (plus_qwc a b)) k h)

  pub qwc_some : {v0 v1 v2 v3 v4 v5 v6 v7 : ℕ} → Sum (a.id0 + b.id0) v0 → Sum (a.id1 + b.id1) v1 → Sum (a.id2 + b.id2) v2 → Sum (a.id3 + b.id3) v3
      → Sum (a.id4 + b.id4) v4 → Sum (a.id5 + b.id5) v5 → Sum (a.id6 + b.id6) v6 → Sum (a.id7 + b.id7) v7 → Some (qwcs v0 v1 v2 v3 v4 v5 v6 v7) ≡ qwc_added a b
  unfolding qwc_added any_passes if
  qwc_some h0 h1 h2 h3 h4 h5 h6 h7 =
      rw (h0.1, h1.1, h2.1, h3.1, h4.1, h5.1, h6.1, h7.1, does_not h0, does_not h1, does_not h2, does_not h3, does_not h4, does_not h5, does_not h6, does_not h7)

-- what sums that may be none tell
by_sums : {A : Type 0} (b : Bool) (q : A) → (if b None (Some q) ≡ None → b ≡ true) × ((r : A) → Some r ≡ if b None (Some q) → (b ≡ false) × (r ≡ q))
unfolding if
by_sums true q = (λ e. refl, λ r e. absurd (let z : Some r ≡ None = e in cc))
by_sums false q = (λ e. absurd (let z : Some q ≡ None = e in cc), λ r e. (refl, let z : Some r ≡ Some q = e in cc))

module _ (t : Totals) (c : Counts) where
  -- a sum passes, one of the first three or one by ID
  pub sums_none : (k : ℕ) {x : Option Totals} → x ≡ None → Full (get_or (numbers_of (added t c)) k 0) → x ≡ sums_added t c
  unfolding sums_added if
  sums_none k e h = rw (e, one_passes (numbers_of (added t c)) k h)

  pub sums_none_qwc : {x : Option Totals} → x ≡ None → {q : Option Qwc} → q ≡ None → q ≡ qwc_added t.qwc c.qwc → x ≡ sums_added t c
  unfolding sums_added qwc_added any_passes if
  sums_none_qwc e z h =
      let full = (by_sums (any_passes (qwc_numbers (plus_qwc t.qwc c.qwc))) (plus_qwc t.qwc c.qwc)).0 (sym h ∙ z) in
      rw e (passes_last (passes (t.packets + c.packets)) (passes (t.words + c.words)) (passes (t.nops + c.nops)) full)
    where
      passes_last : (i j k : Bool) {b : Bool} → b ≡ true → None ≡ if (i || (j || (k || b))) None (Some (added t c))
      passes_last true j k h = refl
      passes_last false true k h = refl
      passes_last false false true h = refl
      passes_last false false false h = rw h refl

  pub sums_some : {p w n : ℕ} → Sum (t.packets + c.packets) p → Sum (t.words + c.words) w → Sum (t.nops + c.nops) n
      → {s : Option Qwc} {q : Qwc} → s ≡ Some q → s ≡ qwc_added t.qwc c.qwc → Some (totals p w n q) ≡ sums_added t c
  unfolding sums_added qwc_added any_passes if
  sums_some hp hw hn e h =
      let some = (by_sums (any_passes (qwc_numbers (plus_qwc t.qwc c.qwc))) (plus_qwc t.qwc c.qwc)).1 _ (sym e ∙ h) in
      rw (hp.1, hw.1, hn.1, some.1, does_not hp, does_not hw, does_not hn, some.0) refl

  -- the answer by them
  pub add_by : (x : Option Totals) → x ≡ sums_added t c → added_by t (ok_or x TotalFull) ≡ add_of t c
  unfolding sums_added add_of if
  add_by None h = rw ((by_sums (any_passes (numbers_of (added t c))) (added t c)).0 (sym h)) refl
  add_by (Some s) h = let some = (by_sums (any_passes (numbers_of (added t c))) (added t c)).1 _ h in rw (some.1, some.0) refl

-- where the answer is not 54, the totals are the exact sums
pub added_exact : (t : Totals) (c : Counts) → (add_of t c).answer ≡ Added → (add_of t c).totals ≡ added t c
unfolding add_of
added_exact t c =
    if_ind (λ (x : AddResult). x.answer ≡ Added → x.totals ≡ added t c) (any_passes (numbers_of (added t c)))
    (λ e. absurd (let z : ◌≡◌ {A = ℕ} 0 1 = cc in omega arith))
    (λ e. refl)

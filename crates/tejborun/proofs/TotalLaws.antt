-- Calls on totals.
use mathlib.Core.Path.{◌≡◌, refl}
use mathlib.Core.Bool.{Bool, true, false}
use mathlib.Core.Logic.{◌⊎◌}
use mathlib.Core.List.{List, [], ◌∷◌, append-nil}
use Prim.Native.Nat.{ℕ, ◌<◌, ◌≤◌}
use native.Mathlib.Omega.{arith}
use borrow.Author.Tests.{eqb-true, not-false}
use lib.ListN.{length, drop_of_length-le}
use lib.Dec.{eqb}
use Rattle.std.specs.Prelude.{Result, Ok, Err}
use Rattle.fields.specs.declared.Counts.{Counts}
use Rattle.fields.specs.declared.refusals.Refusal.{Refusal}
use Rattle.fields.specs.Counts.{count_numbers}
use Rattle.fields.specs.Fields.{if}
use Rattle.fields.specs.Refusals.{refusal_number}
use Rattle.fields.proofs.ChoiceLaws.{if_ind, if_ind_by, or_left}
use Rattle.totals.specs.declared.Share.{Share}
use Rattle.totals.specs.declared.Totals.{Totals}
use Rattle.totals.specs.Totals.{AddResult, numbers_of, added, any_passes, added_by, add_of}
use Rattle.totals.specs.Numbers.{totals_from, counts_from}
use Rattle.totals.specs.Share.{NopShare}
use Rattle.totals.proofs.NumberLaws.{numbers_read}
use Rattle.tejborun.specs.Buffers.{short, written, Answered, answered}
use Rattle.tejborun.proofs.BufferLaws.{either_short, both_enough}
use Rattle.tejborun.specs.Totals.{short_call, add_left, add_call, ShareCall}

-- numbers in place of as many
written_whole : (ns l : List ℕ) → length l ≡ length ns → written ns l ≡ ns
unfolding written
written_whole ns l h = rw (drop_of_length-le l {i = length ns} (omega arith)) (append-nil ns)

-- ---- the tests

module _ (sums other : List ℕ) (least : ℕ) where
  pub too_short : (length sums ≡ 11 → ⊥) ⊎ (length sums ≡ 11) × (length other < least) → short_call sums other least ≡ true
  unfolding short_call
  too_short = either_short sums other 11 least

  pub enough : length sums ≡ 11 → least ≤ length other → short_call sums other least ≡ false
  unfolding short_call
  enough = both_enough sums other 11 least

eleven : (sums other : List ℕ) (least : ℕ) → short_call sums other least ≡ false → length sums ≡ 11
unfolding short_call
eleven sums other least h = eqb-true (length sums) 11 (not-false (eqb (length sums) 11) (or_left _ _ h))

-- ---- the calls

module _ (sums numbers : List ℕ) where
  pub add_short : short_call sums numbers 12 ≡ true → answered short sums ≡ add_call sums numbers
  unfolding add_call if
  add_short h = rw h

  module _ (l : length sums ≡ 11) (h : short_call sums numbers 12 ≡ false) {t : Totals} (et : t ≡ totals_from sums) {c : Counts} (ec : c ≡ counts_from numbers)
      {r : Result Totals Refusal} (q : added_by t r ≡ add_of t c) where
    pub add_done : {a : Totals} → r ≡ Ok a → {after : List ℕ} → after ≡ written (numbers_of a) sums → answered 0 after ≡ add_call sums numbers
    unfolding add_call if
    add_done {a} o w = rw (h, ← et, ← ec, ← q, o, w, written_whole (numbers_of a) sums l)

    -- a refusal leaves the totals as they stand
    pub add_refused : {e : Refusal} → r ≡ Err e → answered (refusal_number e) sums ≡ add_call sums numbers
    unfolding add_call if
    add_refused o = rw (h, ← et, ← ec, ← q, o, et, numbers_read sums l)

no_both : {b : Bool} {C : Type 0} → b ≡ true → b ≡ false → C
no_both t f = absurd (let z : ◌≡◌ {A = ℕ} 0 1 = cc in omega arith)

module _ (sums result : List ℕ) where
  pub share_short : short_call sums result 2 ≡ true → ShareCall sums result (answered short result)
  share_short h = record { refused = λ e. refl; told = λ e. no_both h e; shared = λ e. no_both h e }

  pub share_done : short_call sums result 2 ≡ false → {t : Totals} → t ≡ totals_from sums → {r : Share} → NopShare t.nops t.words r
      → {after : List ℕ} → after ≡ written (r.nops ∷ r.words ∷ []) result → ShareCall sums result (answered 0 after)
  unfolding written
  share_done h et s ea = rw ea (record { refused = λ e. no_both e h; told = λ e. refl; shared = λ e. rw et at s })

-- "and then no sum changes": a call that does not answer 0 leaves the totals number for number
pub refused_keeps : (sums numbers : List ℕ) → ((add_call sums numbers).answer ≡ 0 → ⊥) → (add_call sums numbers).result ≡ sums
unfolding add_call add_of
refused_keeps sums numbers =
    if_ind_by (λ (x : Answered). (x.answer ≡ 0 → ⊥) → x.result ≡ sums) (short_call sums numbers 12) (λ e n. refl)
    (λ e.
    if_ind (λ (x : AddResult). ((add_left x).answer ≡ 0 → ⊥) → (add_left x).result ≡ sums) (any_passes (numbers_of (added (totals_from sums) (counts_from numbers))))
    (λ n. numbers_read sums (eleven sums numbers 12 e))
    (λ n. absurd (n refl)))

-- the counts that a run wrote to its result are those that a call with this result adds
pub counts_handed_on : (c : Counts) (result : List ℕ) → counts_from (written (count_numbers c) result) ≡ c
unfolding written
counts_handed_on c result = refl

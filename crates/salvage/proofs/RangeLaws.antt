-- A range is dropped at once: up to the next place where a record starts, or to the sheet's end.
use mathlib.Core.Path.{◌≡◌, refl, sym, ap, ◌∙◌}
use mathlib.Core.Bool.{true, false}
use Rattle.std.proofs.Common.{Result, Ok, Err, Option, Some, None}
use Rattle.std.specs.Result.{is_err}
use mathlib.Core.List.{List, [], ◌∷◌}
use Prim.Native.Nat.{ℕ, zero, suc, ◌+◌, ◌-◌, ◌<◌, ◌≤◌}
use native.Mathlib.Omega.{arith}
use lib.ListN.{length}
use lib.Dec.{eqb}
use borrow.Author.Tests.{eq-eqb, ne_eqb}
use Rattle.fields.specs.Fields.{if}
use Rattle.fields.proofs.ChoiceLaws.{if_ind}
use Rattle.fields.specs.Refusals.{refusal_number}
use Rattle.sheet.specs.declared.SheetError.{SheetError}
use Rattle.sheet.specs.declared.Record.{Record as SheetRecord}
use Rattle.sheet.specs.declared.Kind.{Kind}
use Rattle.sheet.specs.Reading.{Reading, End, Found, Refused, reading}
use Rattle.sheet.specs.Reader.{reading_at}
use Rattle.sheet.specs.Whole.{record_bytes}
use Rattle.sheet.proofs.ReaderLaws.{found_next, past}
use Rattle.salvage.specs.Salvage.{Piece, kept, dropped, Range, range, joined, ranges_from, pieces_from}
use Rattle.salvage.specs.Inner.{kept_from, dropped_from, on_place, end_within, range_end}
use Rattle.salvage.proofs.PieceLaws.{refused_inside, along, pieces_end, pieces_found, pieces_refused, found_length, kept_refused}

-- ---- the end of a range

same_end : (f g : ℕ → ℕ) (at : ℕ) (r : Reading) → f (at + 1) ≡ g (at + 1) → on_place f at r ≡ on_place g at r
same_end f g at End h = refl
same_end f g at (Found k n a next) h = refl
same_end f g at (Refused n offset) h = h

enough : (m n : ℕ) (sheet : List ℕ) (at : ℕ) → length sheet ≤ at + m → length sheet ≤ at + n → end_within m sheet at ≡ end_within n sheet at
unfolding end_within
enough zero zero sheet at p q = refl
enough zero (suc n) sheet at p q = rw (past sheet at (omega arith))
enough (suc m) zero sheet at p q = rw (past sheet at (omega arith))
enough (suc m) (suc n) sheet at p q = same_end (end_within m sheet) (end_within n sheet) at (reading_at sheet at) (enough m n sheet (at + 1) (omega arith) (omega arith))

module _ (sheet : List ℕ) (at : ℕ) where
  turn : range_end sheet at ≡ on_place (range_end sheet) at (reading_at sheet at)
  unfolding range_end end_within
  turn = enough (length sheet) (suc (length sheet)) sheet at (omega arith) (omega arith)

  pub ends_end : reading_at sheet at ≡ End → range_end sheet at ≡ at
  ends_end h = turn ∙ rw h

  pub ends_found : {k : Kind} {n a next : ℕ} → reading_at sheet at ≡ Found k n a next → range_end sheet at ≡ at
  ends_found h = turn ∙ rw h

  pub ends_refused : {n offset : ℕ} → reading_at sheet at ≡ Refused n offset → range_end sheet at ≡ range_end sheet (at + 1)
  ends_refused h = turn ∙ rw h

-- what the reader answers there: a refusal, or the end of the range
module _ (sheet : List ℕ) (at : ℕ) where
  pub err_refused : (r : Result (Option SheetRecord) SheetError) → reading r ≡ reading_at sheet at → is_err r ≡ true → (n : ℕ) × (offset : ℕ) × (reading_at sheet at ≡ Refused n offset)
  err_refused (Ok o) e q = absurd (let z : ◌≡◌ {A = ℕ} 0 1 = cc in omega arith)
  err_refused (Err d) e q = (refusal_number d.refusal, d.offset, sym e)

  pub ok_ends : (r : Result (Option SheetRecord) SheetError) → reading r ≡ reading_at sheet at → is_err r ≡ false → range_end sheet at ≡ at
  ok_ends (Ok None) e q = ends_end sheet at (sym e)
  ok_ends (Ok (Some r)) e q = ends_found sheet at (sym e)
  ok_ends (Err d) e q = absurd (let z : ◌≡◌ {A = ℕ} 0 1 = cc in omega arith)

-- ---- ranges

-- no range starts before a place
pub data Past (at : ℕ) : List Range → Type 0 where
  none : Past at []
  first : {r : Range} {rs : List Range} → at ≤ r.offset → Past at (r ∷ rs)

earlier : {at from : ℕ} {rs : List Range} → at ≤ from → Past from rs → Past at rs
earlier h none = none
earlier h (first {r} p) = first {r = r} (omega arith)

joined_past : (at : ℕ) (rs : List Range) → Past at (joined at rs)
unfolding joined
joined_past at [] = first {r = range at 1} (omega arith)
joined_past at (r ∷ rs) = if_ind (Past at) (eqb (at + 1) r.offset) (first {r = range at (1 + r.size)} (omega arith)) (first {r = range at 1} (omega arith))

pub ranges_past : (at : ℕ) (ps : List Piece) → Past at (ranges_from at ps)
unfolding ranges_from
ranges_past at [] = none
ranges_past at (kept r ∷ ps) = earlier (omega arith) (ranges_past (at + length (record_bytes r)) ps)
ranges_past at (dropped b ∷ ps) = joined_past at (ranges_from (at + 1) ps)

-- a byte before ranges that it does not touch, and one before a range that starts after it
apart : (at : ℕ) {from : ℕ} (rs : List Range) → at + 1 < from → Past from rs → joined at rs ≡ range at 1 ∷ rs
unfolding joined if
apart at [] h p = refl
apart at (r ∷ rs) h (first p) = rw (ne_eqb (at + 1) r.offset (λ e. omega arith))

touching : (at next size : ℕ) (rs : List Range) → at + 1 ≡ next → joined at (range next size ∷ rs) ≡ range at (1 + size) ∷ rs
unfolding joined if
touching at next size rs z = rw (eq-eqb (at + 1) next z)

-- ---- a range from a place on

module _ (sheet : List ℕ) (at : ℕ) where
  pub ranges_end : reading_at sheet at ≡ End → dropped_from sheet at ≡ []
  unfolding ranges_from
  ranges_end h = rw (pieces_end sheet at h)

  pub ranges_found : {k : Kind} {n a next : ℕ} → reading_at sheet at ≡ Found k n a next → dropped_from sheet at ≡ dropped_from sheet next
  unfolding ranges_from
  ranges_found {next = next} h = rw (pieces_found sheet at h) (ap (λ (x : ℕ). ranges_from x (pieces_from sheet next)) (found_length sheet at h))

  ranges_refused : {n offset : ℕ} → reading_at sheet at ≡ Refused n offset → dropped_from sheet at ≡ joined at (dropped_from sheet (at + 1))
  unfolding ranges_from
  ranges_refused h = rw (pieces_refused sheet at h)

module _ (sheet : List ℕ) where
  -- it ends no earlier than it starts, and inside the sheet
  pub end_inside : (at : ℕ) → at ≤ length sheet → (at ≤ range_end sheet at) × (range_end sheet at ≤ length sheet)
  end_inside =
      along sheet (λ (at : ℕ). at ≤ length sheet → (at ≤ range_end sheet at) × (range_end sheet at ≤ length sheet))
      (λ at e h. let q = ends_end sheet at e in (omega arith, omega arith))
      (λ at k n a next e i h. let q = ends_found sheet at e in (omega arith, omega arith))
      (λ at n offset e i h.
      let p = refused_inside sheet at e in
      let q = ends_refused sheet at e in
      let o = i (at + 1) (omega arith) (omega arith) in
      (omega arith, omega arith))

  -- none of its bytes is kept
  none_kept : (at : ℕ) → kept_from sheet at ≡ kept_from sheet (range_end sheet at)
  none_kept =
      along sheet (λ (at : ℕ). kept_from sheet at ≡ kept_from sheet (range_end sheet at))
      (λ at e. rw (ends_end sheet at e))
      (λ at k n a next e i. rw (ends_found sheet at e))
      (λ at n offset e i. rw (ends_refused sheet at e) (kept_refused sheet at refl e ∙ i (at + 1) (omega arith)))

  -- they are one range, also with a byte before them
  one_range : (next at : ℕ) → at + 1 ≡ next → at < length sheet
      → joined at (dropped_from sheet next) ≡ range at (range_end sheet next - at) ∷ dropped_from sheet (range_end sheet next)
  one_range =
      along sheet
      (λ (next : ℕ). (at : ℕ) → at + 1 ≡ next → at < length sheet
      → joined at (dropped_from sheet next) ≡ range at (range_end sheet next - at) ∷ dropped_from sheet (range_end sheet next))
      (λ next e at z h.
      let q : next - at ≡ 1 = omega arith in
      rw (ends_end sheet next e, ranges_end sheet next e, q) (apart at {from = next + 1} [] (omega arith) none))
      (λ next k n a after e i at z h.
      let q : next - at ≡ 1 = omega arith in
      let f = found_next sheet next k n a after e in
      rw (ends_found sheet next e, q, ranges_found sheet next e) (apart at {from = after} _ (omega arith) (ranges_past after (pieces_from sheet after))))
      (λ next n offset e i at z h.
      let p = refused_inside sheet next e in
      let o = end_inside (next + 1) (omega arith) in
      let q : 1 + (range_end sheet (next + 1) - next) ≡ range_end sheet (next + 1) - at = omega arith in
      rw (ranges_refused sheet next e, i (next + 1) (omega arith) next refl p, ends_refused sheet next e, ← q)
      (touching at next (range_end sheet (next + 1) - next) (dropped_from sheet (range_end sheet (next + 1))) z))

module _ (sheet : List ℕ) (at : ℕ) {n offset : ℕ} (h : reading_at sheet at ≡ Refused n offset) where
  pub range_dropped : dropped_from sheet at ≡ range at (range_end sheet (at + 1) - at) ∷ dropped_from sheet (range_end sheet (at + 1))
  range_dropped = ranges_refused sheet at h ∙ one_range sheet (at + 1) at refl (refused_inside sheet at h)

  pub range_kept : kept_from sheet at ≡ kept_from sheet (range_end sheet (at + 1))
  range_kept = kept_refused sheet at refl h ∙ none_kept sheet (at + 1)

  -- it is not empty, and lies inside the sheet
  pub range_inside : (at < range_end sheet (at + 1)) × (range_end sheet (at + 1) ≤ length sheet)
  range_inside = let p = refused_inside sheet at h in let o = end_inside sheet (at + 1) (omega arith) in (omega arith, o.1)

-- no range goes on where it ends
pub range_stops : (sheet : List ℕ) (at n offset : ℕ) → reading_at sheet (range_end sheet at) ≡ Refused n offset → ⊥
range_stops sheet =
    along sheet (λ (at : ℕ). (n offset : ℕ) → reading_at sheet (range_end sheet at) ≡ Refused n offset → ⊥)
    (λ at e n offset h. let q = ends_end sheet at e in let z : ◌≡◌ {A = ℕ} 0 1 = cc in omega arith)
    (λ at k m a next e i n offset h. let q = ends_found sheet at e in let z : ◌≡◌ {A = ℕ} 0 1 = cc in omega arith)
    (λ at m from e i n offset h. i (at + 1) (omega arith) n offset (rw (ends_refused sheet at e) at h))

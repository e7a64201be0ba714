-- One turn of the loops that measure and write: what is left after a record, and after a range.
use mathlib.Core.Path.{◌≡◌, refl, sym, ◌∙◌}
use mathlib.Core.List.{List, [], ◌∷◌}
use Prim.Native.Nat.{ℕ, ◌+◌, ◌*◌, ◌-◌, ◌<◌, ◌≤◌}
use native.Mathlib.Omega.{arith}
use lib.ListN.{length, length-append}
use lib.Seq.{sets, length-sets}
use Rattle.sheet.specs.declared.Kind.{Kind}
use Rattle.sheet.specs.Reading.{Reading, End, Found, Refused}
use Rattle.sheet.specs.Records.{bytes_at}
use Rattle.sheet.specs.Reader.{reading_at}
use Rattle.sheet.specs.Whole.{Bytes}
use Rattle.sheet.proofs.ReaderLaws.{found_next}
use borrow.Rule.Slice.PartMut.{put_mid}
use Rattle.sheet.proofs.ListLaws.{sets_next, part_length, put_part}
use Rattle.salvage.specs.Salvage.{Range, numbers_of}
use Rattle.salvage.specs.Inner.{kept_from, dropped_from, range_end}
use Rattle.salvage.proofs.PieceLaws.{kept_end, kept_found}
use Rattle.salvage.proofs.RangeLaws.{ranges_end, ranges_found, range_dropped, range_kept, range_inside}

pub numbers_length : (rs : List Range) → length (numbers_of rs) ≡ 2 * length rs
unfolding numbers_of
numbers_length [] = refl
numbers_length (r ∷ rs) = let h = numbers_length rs in omega arith

module _ (sheet : List ℕ) (at : ℕ) {g : Reading} (e : g ≡ reading_at sheet at) where
  -- ---- the end

  module _ (q : g ≡ End) where
    pub end_measured : (bytes ranges : ℕ) {b r : ℕ} → bytes + length (kept_from sheet at) ≡ b → ranges + length (dropped_from sheet at) ≡ r → (bytes ≡ b) × (ranges ≡ r)
    end_measured bytes ranges h i =
        let k : length (kept_from sheet at) ≡ 0 = rw (kept_end sheet at e q) in
        let d : length (dropped_from sheet at) ≡ 0 = rw (ranges_end sheet at (sym e ∙ q)) in
        (omega arith, omega arith)

    pub end_kept : (output : List ℕ) (to : ℕ) {x : List ℕ} → sets output to (kept_from sheet at) ≡ x → output ≡ x
    end_kept output to h = rw (kept_end sheet at e q) at h

    pub end_ranges : (ranges : List ℕ) (to : ℕ) {x : List ℕ} → sets ranges to (numbers_of (dropped_from sheet at)) ≡ x → ranges ≡ x
    unfolding numbers_of
    end_ranges ranges to h = rw (ranges_end sheet at (sym e ∙ q)) at h

  -- ---- a record

  module _ {k : Kind} {n a next : ℕ} (q : g ≡ Found k n a next) where
    pub found_inside : (at + 6 ≤ next) × (next ≤ length sheet)
    found_inside = let f = found_next sheet at k n a next (sym e ∙ q) in (omega arith, f.inside)

    pub found_dropped : dropped_from sheet at ≡ dropped_from sheet next
    found_dropped = ranges_found sheet at (sym e ∙ q)

    module _ (b : Bytes sheet) where
      pub found_more : length (kept_from sheet at) ≡ next - at + length (kept_from sheet next)
      found_more =
          let f = found_inside in
          rw (kept_found sheet at e b q, length-append, part_length sheet at (next - at) (omega arith))

      -- it lies in the sheet, and has room where what is left has
      pub found_fits : (to : ℕ) {size : ℕ} → to + length (kept_from sheet at) ≤ size → (at + (next - at) ≤ length sheet) × (to + (next - at) ≤ size)
      found_fits to h = let f = found_inside in let m = found_more in (omega arith, omega arith)

      pub found_stored : (output : List ℕ) (to : ℕ) {o : List ℕ} → o ≡ sets output to (bytes_at sheet at (next - at))
          → sets o (to + (next - at)) (kept_from sheet next) ≡ sets output to (kept_from sheet at)
      found_stored output to h =
          let f = found_inside in
          let l = part_length sheet at (next - at) (omega arith) in
          rw (kept_found sheet at e b q) (sets_next output to (bytes_at sheet at (next - at)) (kept_from sheet next) h (rw l) refl)

      pub found_room : (output : List ℕ) (to : ℕ) {o : List ℕ} → o ≡ sets output to (bytes_at sheet at (next - at)) → to + length (kept_from sheet at) ≤ length output
          → to + (next - at) + length (kept_from sheet next) ≤ length o
      found_room output to h r = let m = found_more in rw (h, length-sets) (omega arith)

  -- ---- a range

  module _ {n offset end : ℕ} (q : g ≡ Refused n offset) (z : end ≡ range_end sheet (at + 1)) where
    pub dropped_inside : (at < end) × (end ≤ length sheet)
    dropped_inside = rw z (range_inside sheet at (sym e ∙ q))

    pub dropped_kept : kept_from sheet at ≡ kept_from sheet end
    dropped_kept = rw z (range_kept sheet at (sym e ∙ q))

    pub dropped_more : length (dropped_from sheet at) ≡ 1 + length (dropped_from sheet end)
    dropped_more = rw (z, range_dropped sheet at (sym e ∙ q)) (omega arith)

    dropped_numbers : numbers_of (dropped_from sheet at) ≡ at ∷ (end - at) ∷ numbers_of (dropped_from sheet end)
    unfolding numbers_of
    dropped_numbers = rw (z, range_dropped sheet at (sym e ∙ q))

    dropped_length : length (numbers_of (dropped_from sheet at)) ≡ 2 + length (numbers_of (dropped_from sheet end))
    dropped_length = rw dropped_numbers (omega arith)

    -- a range has room where what is left has
    pub dropped_fits : (to : ℕ) {size : ℕ} → to + length (numbers_of (dropped_from sheet at)) ≤ size → to + 2 ≤ size
    dropped_fits to h = let m = dropped_length in omega arith

    pub dropped_stored : (ranges : List ℕ) (to : ℕ) {o : List ℕ} → o ≡ sets ranges to (at ∷ (end - at) ∷ [])
        → sets o (to + 2) (numbers_of (dropped_from sheet end)) ≡ sets ranges to (numbers_of (dropped_from sheet at))
    dropped_stored ranges to h = rw dropped_numbers (sets_next ranges to (at ∷ (end - at) ∷ []) (numbers_of (dropped_from sheet end)) h refl refl)

    pub dropped_room : (ranges : List ℕ) (to : ℕ) {o : List ℕ} → o ≡ sets ranges to (at ∷ (end - at) ∷ []) → to + length (numbers_of (dropped_from sheet at)) ≤ length ranges
        → to + 2 + length (numbers_of (dropped_from sheet end)) ≤ length o
    dropped_room ranges to h r = let m = dropped_length in rw (h, length-sets ranges to (at ∷ (end - at) ∷ [])) (omega arith)

-- the two numbers of a range, stored whole
pub range_stored : (ranges : List ℕ) (to offset size : ℕ) {ys : List ℕ} → to + 2 ≤ length ranges → ys ≡ offset ∷ size ∷ [] → put_mid to (to + 2 - to) ranges ys ≡ sets ranges to (offset ∷ size ∷ [])
range_stored ranges to offset size h e = rw e (put_part ranges (offset ∷ size ∷ []) to (to + 2 - to) (omega arith) (omega arith))

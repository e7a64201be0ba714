-- The reader of the first edition loses nothing: what is read as records is those records' bytes, and each record meets its row.
use mathlib.Core.Path.{◌≡◌, refl, sym, ◌∙◌}
use mathlib.Core.List.{List, [], ◌∷◌, ◌++◌}
use Prim.Native.Nat.{ℕ, zero, suc, ◌+◌, ◌*◌, ◌%◌, ◌/◌, ◌≤◌, ◌<◌}
use native.Mathlib.Nat.{add-zero, add_assoc}
use native.Mathlib.Omega.{arith}
use lib.ListN.{length, get_or, take, drop, take-append-drop, drop_of_length-le, length-drop}
use lib.Seq.{drop-cons, length-take-le, get_or-take, get_or-drop, drop-drop}
use Rattle.sheet.specs.declared.Kind.{Kind}
use Rattle.sheet.specs.declared.Kind.TheVariants.{Data, Code, Gs, Start}
use Rattle.sheet.specs.Reading.{Reading, End, Found, Refused}
use Rattle.sheet.specs.Records.{Record, record_of, body_length, bytes_at, zeros_at, pads_zero, pads_fit}
use Rattle.sheet.specs.Reader.{Contents, valid, refused, before, reading_at, contents_from}
use Rattle.sheet.specs.Whole.{record_bytes, sheet_bytes, MeetsRow, AllMeet, none, more, Bytes}
use Rattle.sheet.proofs.ReaderLaws.{FoundThere, found_next, reading_end, from_end, from_found, from_refused}

-- zeros in a part of a list are zeros of the list
module _ (xs : List ℕ) (p m : ℕ) where
  part_at : (i : ℕ) → i < m → get_or (bytes_at xs p m) i 0 ≡ get_or xs (p + i) 0
  part_at i h = rw (get_or-take m (drop p xs) i 0 h, get_or-drop)

  part_zeros : (n i : ℕ) → i + n ≤ m → zeros_at (bytes_at xs p m) i n ≡ zeros_at xs (p + i) n
  unfolding zeros_at
  part_zeros zero i h = refl
  part_zeros (suc n) i h = rw (part_at i (omega arith), part_zeros n (i + 1) (omega arith), add_assoc p i 1)

  part_pads : (n i : ℕ) → i + 16 * n ≤ m → pads_zero (bytes_at xs p m) i n ≡ pads_zero xs (p + i) n
  unfolding pads_zero
  part_pads zero i h = refl
  part_pads (suc n) i h = rw (part_zeros 7 (i + 9) (omega arith), part_pads n (i + 16) (omega arith), add_assoc p i 9, add_assoc p i 16)

pub part_fits : (k : Kind) (xs : List ℕ) (p n : ℕ) → pads_fit k (bytes_at xs p (body_length k n)) 0 n ≡ pads_fit k xs p n
part_fits Data xs p n = refl
part_fits Code xs p n = refl
part_fits Gs xs p n = part_pads xs p (16 * n) n 0 (omega arith) ∙ rw add-zero
part_fits Start xs p n = refl

-- six elements and the others
pub six : (xs : List ℕ) → 6 ≤ length xs
    → xs ≡ get_or xs 0 0 ∷ get_or xs 1 0 ∷ get_or xs 2 0 ∷ get_or xs 3 0 ∷ get_or xs 4 0 ∷ get_or xs 5 0 ∷ drop 6 xs
six xs h =
    drop-cons xs 0 0 (omega arith)
    ∙ rw (drop-cons xs 1 0 (omega arith), drop-cons xs 2 0 (omega arith), drop-cons xs 3 0 (omega arith), drop-cons xs 4 0 (omega arith), drop-cons xs 5 0 (omega arith))

-- a refused sheet is not valid
pub refused_not : {n offset : ℕ} {rs : List Record} → refused n offset ≡ valid rs → ⊥
refused_not e = let z : ◌≡◌ {A = ℕ} 0 1 = cc in omega arith

-- a record before others is the first of them
first_of : {r q : Record} {qs : List Record} (c : Contents) → before r c ≡ valid (q ∷ qs) → (r ≡ q) × (c ≡ valid qs)
first_of (valid rs) e = (cc, cc)
first_of (refused n offset) e = absurd (refused_not e)

-- and is not none
not_none : (r : Record) (c : Contents) → before r c ≡ valid [] → ⊥
not_none r (valid rs) e = let z : ◌≡◌ {A = ℕ} 0 1 = cc in omega arith
not_none r (refused n offset) e = refused_not e

-- a record found meets its row
pub found_meets : (sheet : List ℕ) (at : ℕ) {k : Kind} {n a next : ℕ} → FoundThere sheet at k n a next → MeetsRow (record_of k n a (bytes_at sheet (at + 6) (body_length k n)))
found_meets sheet at {k} {n} f =
    record {
      count = f.counted;
      address = f.addressed;
      size = length-take-le (body_length k n) (drop (at + 6) sheet) (rw length-drop (omega arith));
      pads = part_fits k sheet (at + 6) n ∙ f.padded;
    }

module _ (sheet : List ℕ) (b : Bytes sheet) where
  module _ (at : ℕ) {k : Kind} {n a next : ℕ} (f : FoundThere sheet at k n a next) where
    -- the record found is its bytes, and the sheet goes on after them
    pub found_bytes : drop at sheet ≡ record_bytes (record_of k n a (bytes_at sheet (at + 6) (body_length k n))) ++ drop next sheet
    found_bytes =
        let low : a % 256 ≡ get_or sheet (at + 4) 0 = omega (arith, b.below (at + 4)) in
        let high : a / 256 ≡ get_or sheet (at + 5) 0 = omega (arith, b.below (at + 4)) in
        let body : take (body_length k n) (drop (at + 6) sheet) ++ drop next sheet ≡ drop (at + 6) sheet = rw (f.after, ← drop-drop (body_length k n) (at + 6) sheet) (take-append-drop (body_length k n) (drop (at + 6) sheet)) in
        six (drop at sheet) (rw length-drop (omega arith))
        ∙ simp (get_or-drop, drop-drop, add-zero, f.first, f.second, f.kind, f.count, low, high, body)

  -- what is read from a place on is what stands there
  pub read_on : (rs : List Record) (at : ℕ) (x : Reading) → reading_at sheet at ≡ x → contents_from sheet at ≡ valid rs → (drop at sheet ≡ sheet_bytes rs) × AllMeet rs
  unfolding sheet_bytes
  read_on [] at End h e = (drop_of_length-le sheet (reading_end sheet at h), none)
  read_on [] at (Found k n a next) h e =
      absurd (not_none (record_of k n a (bytes_at sheet (at + 6) (body_length k n))) (contents_from sheet next) (sym (from_found sheet at k n a next h) ∙ e))
  read_on [] at (Refused n offset) h e = absurd (refused_not (sym (from_refused sheet at n offset h) ∙ e))
  read_on (r ∷ rs) at End h e = let q = from_end sheet at h in absurd (let z : ◌≡◌ {A = ℕ} 0 1 = cc in omega arith)
  read_on (r ∷ rs) at (Found k n a next) h e =
      let f = found_next sheet at k n a next h in
      let p = first_of _ (sym (from_found sheet at k n a next h) ∙ e) in
      let on = read_on rs next (reading_at sheet next) refl p.1 in
      (found_bytes at f ∙ rw (← p.0, on.0), more (rw p.0 at (found_meets sheet at f)) on.1)
  read_on (r ∷ rs) at (Refused n offset) h e = absurd (refused_not (sym (from_refused sheet at n offset h) ∙ e))

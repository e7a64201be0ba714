-- One turn of the reading: the pieces from a place on, by what stands there.
use mathlib.Core.Path.{◌≡◌, refl, sym, ◌∙◌}
use mathlib.Core.Bool.{Bool, true, false}
use mathlib.Core.List.{List, [], ◌∷◌, ◌++◌}
use Prim.Native.Nat.{ℕ, zero, suc, ◌+◌, ◌-◌, ◌<◌, ◌≤◌}
use native.Mathlib.Omega.{arith}
use lib.ListN.{length, get_or, drop}
use lib.Dec.{leb}
use lib.Seq.{take_at}
use borrow.Author.Tests.{leb-true, leb-false}
use Rattle.sheet.specs.declared.Kind.{Kind}
use Rattle.sheet.specs.Reading.{Reading, End, Found, Refused}
use Rattle.sheet.specs.Records.{body_length, bytes_at}
use Rattle.sheet.specs.Reader.{reading_at}
use Rattle.sheet.specs.Whole.{record_bytes, sheet_bytes, Bytes}
use Rattle.sheet.proofs.ReaderLaws.{FoundThere, found_next, past}
use Rattle.sheet.proofs.WholeLaws.{found_bytes}
use Rattle.sheet.proofs.RestLaws.{record_at}
use Rattle.sheet.proofs.ListLaws.{part_length}
use Rattle.salvage.specs.Salvage.{Piece, kept, dropped, take_piece, pieces_within, pieces_from, records_in}
use Rattle.salvage.specs.Inner.{kept_from}

module _ (sheet : List ℕ) (at : ℕ) where
  inside_by : (b : Bool) {n offset : ℕ} → leb (length sheet) at ≡ b → reading_at sheet at ≡ Refused n offset → at < length sheet
  inside_by true h e = let p = past sheet at (leb-true _ _ h) in absurd (let z : ◌≡◌ {A = ℕ} 0 1 = cc in omega arith)
  inside_by false h e = leb-false _ _ h

  -- a place without a record is inside the sheet
  pub refused_inside : {n offset : ℕ} → reading_at sheet at ≡ Refused n offset → at < length sheet
  refused_inside e = inside_by (leb (length sheet) at) refl e

-- Along the reading: what holds at the end, before a record where it holds after it, and at a place without one where it holds from every later place on.
module _ (sheet : List ℕ) (P : ℕ → Type 0) (end : (at : ℕ) → reading_at sheet at ≡ End → P at)
    (found : (at : ℕ) (k : Kind) (n a next : ℕ) → reading_at sheet at ≡ Found k n a next → P next → P at)
    (refused : (at n offset : ℕ) → reading_at sheet at ≡ Refused n offset → ((next : ℕ) → at < next → P next) → P at) where
  along_within : (m at : ℕ) (x : Reading) → length sheet ≤ at + m → reading_at sheet at ≡ x → P at
  along_within zero at End h e = end at e
  along_within zero at (Found k n a next) h e = let f = found_next sheet at k n a next e in absurd (omega arith)
  along_within zero at (Refused n offset) h e = let p = refused_inside sheet at e in absurd (omega arith)
  along_within (suc m) at End h e = end at e
  along_within (suc m) at (Found k n a next) h e =
      let f = found_next sheet at k n a next e in
      found at k n a next e (along_within m next (reading_at sheet next) (omega arith) refl)
  along_within (suc m) at (Refused n offset) h e =
      refused at n offset e (λ next p. along_within m next (reading_at sheet next) (omega arith) refl)

  pub along : (at : ℕ) → P at
  along at = along_within (length sheet) at (reading_at sheet at) (omega arith) refl

-- two ways to go on that agree after a piece
same_on : (f g : ℕ → List Piece) (sheet : List ℕ) (at : ℕ) (r : Reading)
    → ((k : Kind) (n a next : ℕ) → r ≡ Found k n a next → f next ≡ g next)
    → ((n offset : ℕ) → r ≡ Refused n offset → f (at + 1) ≡ g (at + 1))
    → take_piece f sheet at r ≡ take_piece g sheet at r
same_on f g sheet at End h i = refl
same_on f g sheet at (Found k n a next) h i = rw (h k n a next refl)
same_on f g sheet at (Refused n offset) h i = rw (i n offset refl)

-- enough pieces are all pieces
enough : (m n : ℕ) (sheet : List ℕ) (at : ℕ) → length sheet ≤ at + m → length sheet ≤ at + n → pieces_within m sheet at ≡ pieces_within n sheet at
unfolding pieces_within
enough zero zero sheet at p q = refl
enough zero (suc n) sheet at p q = rw (past sheet at (omega arith))
enough (suc m) zero sheet at p q = rw (past sheet at (omega arith))
enough (suc m) (suc n) sheet at p q =
    same_on _ _ sheet at _
    (λ k c a next h. let s = found_next sheet at k c a next h in enough m n sheet next (omega arith) (omega arith))
    (λ c offset h. enough m n sheet (at + 1) (omega arith) (omega arith))

module _ (sheet : List ℕ) (at : ℕ) where
  turn : pieces_from sheet at ≡ take_piece (pieces_from sheet) sheet at (reading_at sheet at)
  unfolding pieces_from pieces_within
  turn = enough (length sheet) (suc (length sheet)) sheet at (omega arith) (omega arith)

  pub pieces_end : reading_at sheet at ≡ End → pieces_from sheet at ≡ []
  pieces_end h = turn ∙ rw h

  pub pieces_found : {k : Kind} {n a next : ℕ} → reading_at sheet at ≡ Found k n a next → pieces_from sheet at ≡ kept (record_at sheet at k n a) ∷ pieces_from sheet next
  pieces_found h = turn ∙ rw h

  pub pieces_refused : {n offset : ℕ} → reading_at sheet at ≡ Refused n offset → pieces_from sheet at ≡ dropped (get_or sheet at 0) ∷ pieces_from sheet (at + 1)
  pieces_refused h = turn ∙ rw h

-- a record found ends where the next piece starts
module _ (sheet : List ℕ) (at : ℕ) {k : Kind} {n a next : ℕ} (h : reading_at sheet at ≡ Found k n a next) where
  there : FoundThere sheet at k n a next
  there = found_next sheet at k n a next h

  pub found_length : at + length (record_bytes (record_at sheet at k n a)) ≡ next
  found_length = let t = there in let p = part_length sheet (at + 6) (body_length k n) (omega arith) in omega arith

  pub found_part : Bytes sheet → record_bytes (record_at sheet at k n a) ≡ bytes_at sheet at (next - at)
  found_part b =
      let l = found_length in
      rw (found_bytes sheet b at there) (sym (take_at (record_bytes (record_at sheet at k n a)) (drop next sheet) (next - at) (omega arith)))

-- what is kept from a place on
module _ (sheet : List ℕ) (at : ℕ) {g : Reading} (e : g ≡ reading_at sheet at) where
  pub kept_end : g ≡ End → kept_from sheet at ≡ []
  unfolding records_in sheet_bytes
  kept_end q = rw (pieces_end sheet at (sym e ∙ q))

  pub kept_found : {k : Kind} {n a next : ℕ} → Bytes sheet → g ≡ Found k n a next → kept_from sheet at ≡ bytes_at sheet at (next - at) ++ kept_from sheet next
  unfolding records_in sheet_bytes
  kept_found b q = rw (pieces_found sheet at (sym e ∙ q), ← found_part sheet at (sym e ∙ q) b)

  pub kept_refused : {n offset : ℕ} → g ≡ Refused n offset → kept_from sheet at ≡ kept_from sheet (at + 1)
  unfolding records_in
  kept_refused q = rw (pieces_refused sheet at (sym e ∙ q))

-- Reading bytes: inside a part of the sheet, and one after another.
use mathlib.Core.Path.{◌≡◌, refl, ◌∙◌}
use mathlib.Core.List.{List, [], ◌∷◌}
use Prim.Native.Nat.{ℕ, zero, suc, ◌+◌, ◌≤◌, ◌<◌}
use native.Mathlib.Numerals.{add-one}
use native.Mathlib.Omega.{arith}
use lib.ListN.{length, get_or, take, drop}
use lib.Seq.{take-take, drop-drop, drop-cons}
use Rattle.sheet.specs.Records.{bytes_at}

-- a part of a part is a part of the whole
part_inside : (i n m : ℕ) (l : List ℕ) → i + n ≤ m → take n (drop i (take m l)) ≡ take n (drop i l)
part_inside zero n m l h = take-take n m l (omega arith)
part_inside (suc i) n zero l h = absurd (omega arith)
part_inside (suc i) n (suc m) [] h = refl
part_inside (suc i) n (suc m) (x ∷ l) h = part_inside i n m l (omega arith)

pub bytes_inside : (l : List ℕ) (b m i n : ℕ) {k : ℕ} → i + n ≤ m → b + i ≡ k → bytes_at (bytes_at l b m) i n ≡ bytes_at l k n
bytes_inside l b m i n h e = part_inside i n m (drop b l) h ∙ rw (drop-drop, e)

-- a byte and the rest
pub bytes_more : (l : List ℕ) (i n : ℕ) {k : ℕ} → i < length l → i + 1 ≡ k → bytes_at l i (suc n) ≡ get_or l i 0 ∷ bytes_at l k n
bytes_more l i n h e = rw (drop-cons l i 0 h, ← e, add-one)

-- four bytes and the rest
pub bytes_four : (l : List ℕ) (i n : ℕ) → i + 4 ≤ length l
    → bytes_at l i (suc (suc (suc (suc n)))) ≡ get_or l i 0 ∷ get_or l (i + 1) 0 ∷ get_or l (i + 2) 0 ∷ get_or l (i + 3) 0 ∷ bytes_at l (i + 4) n
bytes_four l i n h =
    rw (
      bytes_more l i (suc (suc (suc n))) {k = i + 1} (omega arith) refl,
      bytes_more l (i + 1) (suc (suc n)) {k = i + 2} (omega arith) (omega arith),
      bytes_more l (i + 2) (suc n) {k = i + 3} (omega arith) (omega arith),
      bytes_more l (i + 3) n {k = i + 4} (omega arith) (omega arith),
    )

-- Lists and runs of stores.
use mathlib.Core.Path.{◌≡◌, refl, sym, ◌∙◌}
use mathlib.Core.List.{List, ◌++◌, append_assoc}
use Prim.Native.Nat.{ℕ, ◌+◌, ◌-◌, ◌≤◌}
use native.Mathlib.Nat.{zero-add}
use native.Mathlib.Omega.{arith}
use lib.ListN.{length, take, drop, length-drop}
use borrow.Rule.Slice.PartMut.{put_mid}
use lib.Seq.{sets, sets-eq, drop-drop, length-take-le}
use Rattle.fields.proofs.ListLaws.{sets_then}

-- a run of stores and then another after it, of lists that are known by equations
pub sets_next : (l : List ℕ) (i : ℕ) (xs ys : List ℕ) {a b : List ℕ} {j : ℕ} → a ≡ sets l i xs → j ≡ i + length xs → b ≡ sets a j ys
    → b ≡ sets l i (xs ++ ys)
sets_next l i xs ys p q r = r ∙ rw (p, q) (sets_then l i xs ys)

-- stores from the start on
pub sets_front : (l xs : List ℕ) → length xs ≤ length l → sets l 0 xs ≡ xs ++ drop (length xs) l
sets_front l xs h = sets-eq xs l 0 (rw (zero-add (length xs)) h) ∙ rw (zero-add (length xs)) refl

pub part_length : (xs : List ℕ) (from n : ℕ) → from + n ≤ length xs → length (take n (drop from xs)) ≡ n
part_length xs from n h = length-take-le n (drop from xs) (simp length-drop (omega arith))

-- a part of a list, stored whole
pub put_part : (l xs : List ℕ) (i k : ℕ) → length xs ≡ k → i + k ≤ length l → put_mid i k l xs ≡ sets l i xs
put_part l xs i k e h =
    rw (drop-drop k i l, ← e) (sym (sets-eq xs l i (omega arith) ∙ append_assoc (take i l) xs (drop (i + length xs) l)))

-- n elements of a list, copied into another
pub part_copied : (xs l : List ℕ) (from to n : ℕ) {ys : List ℕ} → from + n ≤ length xs → to + n ≤ length l → ys ≡ take (from + n - from) (drop from xs)
    → put_mid to (to + n - to) l ys ≡ sets l to (take n (drop from xs))
part_copied xs l from to n g h e =
    let f : from + n - from ≡ n = omega arith in
    rw (e, f) (put_part l (take n (drop from xs)) to (to + n - to) (part_length xs from n g ∙ omega arith) (omega arith))

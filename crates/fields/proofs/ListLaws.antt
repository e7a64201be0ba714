-- Runs of stores to a list.
use Rattle.std.proofs.Common.{◌≡◌, ℕ, suc, ◌+◌, List, [], ◌∷◌, ◌++◌, length, set, add-zero, arith}
use lib.Seq.{sets}

-- a run of stores, and then another after it
pub sets_then : (l : List ℕ) (i : ℕ) (xs ys : List ℕ) → sets (sets l i xs) (i + length xs) ys ≡ sets l i (xs ++ ys)
sets_then l i [] ys = rw add-zero
sets_then l i (x ∷ xs) ys =
    let e : i + suc (length xs) ≡ suc i + length xs = omega arith in
    rw e (sets_then (set l i x) (suc i) xs ys)

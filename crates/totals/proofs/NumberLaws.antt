-- Numbers and the totals read from them.
use mathlib.Core.Path.{◌≡◌, refl, sym, ap, ◌∙◌}
use mathlib.Core.List.{List, [], ◌∷◌}
use Prim.Native.Nat.{ℕ, zero, suc, ◌+◌}
use native.Mathlib.Omega.{arith}
use lib.ListN.{length, get_or, drop, drop_of_length-le}
use lib.Seq.{drop-cons}
use Rattle.fields.specs.declared.Counts.{Counts}
use Rattle.fields.specs.Counts.{count_numbers}
use Rattle.totals.specs.declared.Totals.{Totals}
use Rattle.totals.specs.Totals.{numbers_of}
use Rattle.totals.specs.Numbers.{totals_from, counts_from}

-- k numbers from a place on
numbers_at : List ℕ → ℕ → ℕ → List ℕ
numbers_at ns at zero = []
numbers_at ns at (suc k) = get_or ns at 0 ∷ numbers_at ns (at + 1) k

numbers_rest : (ns : List ℕ) (at k : ℕ) → length ns ≡ at + k → numbers_at ns at k ≡ drop at ns
unfolding numbers_at
numbers_rest ns at zero h = sym (drop_of_length-le ns {i = at} (omega arith))
numbers_rest ns at (suc k) h =
    let next : at + 1 ≡ suc at = omega arith in
    ap (λ (l : List ℕ). get_or ns at 0 ∷ l) (numbers_rest ns (at + 1) k (omega arith) ∙ ap (λ (i : ℕ). drop i ns) next)
    ∙ sym (drop-cons ns at 0 (omega arith))

-- eleven numbers are those of the totals read from them
pub numbers_read : (ns : List ℕ) → length ns ≡ 11 → numbers_of (totals_from ns) ≡ ns
unfolding numbers_at
numbers_read ns h = numbers_rest ns 0 11 (omega arith)

-- and the totals those of their numbers
pub totals_read : (t : Totals) → totals_from (numbers_of t) ≡ t
totals_read t = refl

-- and so the counts that a run hands back
pub counts_read : (c : Counts) → counts_from (count_numbers c) ≡ c
counts_read c = refl

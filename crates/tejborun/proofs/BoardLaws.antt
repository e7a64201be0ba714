-- Two boards compared.
use mathlib.Core.Path.{◌≡◌}
use mathlib.Core.List.{List}
use Prim.Native.Nat.{ℕ, ◌<◌, ◌≤◌}
use native.Mathlib.Omega.{arith}
use borrow.Author.Tests.{lt-ltb, le-ltb}
use lib.ListN.{length}
use lib.Dec.{eqb}
use Rattle.fields.specs.Fields.{if}
use Rattle.fields.specs.Refusals.{out_of_range}
use Rattle.fields.proofs.ChoiceLaws.{if_ind}
use Rattle.compare.specs.CompareAnswer.{CompareAnswer, Compared, Refused}
use Rattle.compare.specs.Boards.{Board, refusal, compare_of}
use Rattle.compare.specs.Within.{range_refused, answer_within, compare_within}
use Rattle.compare.proofs.LengthLaws.{refusal_most}
use Rattle.tejborun.specs.Buffers.{short, Answered, answered}
use Rattle.tejborun.specs.Boards.{compare_answered, compared_call, compare_call, compare_within_call}

-- ---- refusals have small numbers

abbrev Small : CompareAnswer → Type 0
Small x = (n : ℕ) → x ≡ Refused n → n ≤ out_of_range

module _ (parts : ℕ) (a b : Board) where
  whole_small : Small (compare_of parts a b)
  unfolding compare_of
  whole_small =
      if_ind Small (eqb (refusal parts a b) 0) (λ n p. absurd (let z : ◌≡◌ {A = ℕ} 0 1 = cc in omega arith))
      (λ n p. let r = refusal_most parts a b in let z : refusal parts a b ≡ n = cc in omega arith)

  pub refused_small : {x : CompareAnswer} → x ≡ compare_of parts a b → (n : ℕ) → x ≡ Refused n → n ≤ out_of_range
  refused_small e = rw e whole_small

  module _ (first last : ℕ) where
    answer_small : (x : CompareAnswer) → Small x → Small (answer_within parts first last a b x)
    answer_small (Compared c) s = λ n p. absurd (let z : ◌≡◌ {A = ℕ} 0 1 = cc in omega arith)
    answer_small (Refused k) s = s

    pub refused_small_within : {x : CompareAnswer} → x ≡ compare_within parts first last a b → (n : ℕ) → x ≡ Refused n → n ≤ out_of_range
    unfolding compare_within
    refused_small_within e =
        rw e
        (if_ind Small (range_refused parts first last) (λ n p. let z : out_of_range ≡ n = cc in omega arith)
        (answer_small (compare_of parts a b) whole_small))

-- ---- the answers

module _ (result : List ℕ) where
  call_short : (answer : CompareAnswer) → length result < 10 → answered short result ≡ compared_call answer result
  unfolding if
  call_short answer h = rw (lt-ltb (length result) 10 h)

  call_told : (answer : CompareAnswer) → 10 ≤ length result → {x : CompareAnswer} → x ≡ answer → {z : Answered} → z ≡ compare_answered x result
      → z ≡ compared_call answer result
  unfolding if
  call_told answer h e k = rw (le-ltb (length result) 10 h, ← e) k

  module _ (parts : ℕ) (a b : Board) where
    pub compare_short : length result < 10 → answered short result ≡ compare_call parts a b result
    unfolding compare_call
    compare_short = call_short (compare_of parts a b)

    pub compare_told : 10 ≤ length result → {x : CompareAnswer} → x ≡ compare_of parts a b → {z : Answered} → z ≡ compare_answered x result
        → z ≡ compare_call parts a b result
    unfolding compare_call
    compare_told h e k = call_told (compare_of parts a b) h e k

    module _ (first last : ℕ) where
      pub within_short : length result < 10 → answered short result ≡ compare_within_call parts first last a b result
      unfolding compare_within_call
      within_short = call_short (compare_within parts first last a b)

      pub within_told : 10 ≤ length result → {x : CompareAnswer} → x ≡ compare_within parts first last a b → {z : Answered} → z ≡ compare_answered x result
          → z ≡ compare_within_call parts first last a b result
      unfolding compare_within_call
      within_told h e k = call_told (compare_within parts first last a b) h e k

-- Calls on totals: eleven numbers, in the order of `numbersOf`. Counts of a run are twelve, the steps first.
use Rattle.std.specs.Prelude.{ℕ, Bool, true, false, not, ◌||◌, List, [], ◌∷◌, ◌≡◌, length, get_or, eqb, ltb}
use Rattle.fields.specs.Fields.{if}
use Rattle.totals.specs.declared.Share.{Share}
use Rattle.totals.specs.Totals.{AddResult, numbers_of, add_number, add_of}
use Rattle.totals.specs.Numbers.{totals_from, counts_from}
use Rattle.totals.specs.Share.{share, NopShare}
use Rattle.tejborun.specs.Buffers.{short, written, Answered, answered}

-- the share in two numbers
abbrev pub share_from : List ℕ → Share
share_from ns = share (get_or ns 0 0) (get_or ns 1 0)

-- a call is short where the totals are not eleven numbers, or another buffer has fewer than it wants
unfoldable pub short_call : List ℕ → List ℕ → ℕ → Bool
short_call sums other least = not (eqb (length sums) 11) || ltb (length other) least

-- ---- a run's counts added

abbrev pub add_left : AddResult → Answered
add_left x = answered (add_number x.answer) (numbers_of x.totals)

-- what is left: the answer's number and the totals
unfoldable pub add_call : List ℕ → List ℕ → Answered
add_call sums numbers = if (short_call sums numbers 12) (answered short sums) (add_left (add_of (totals_from sums) (counts_from numbers)))

-- ---- the NOP share

-- what is left: the answer's number and the result
pub record ShareCall (sums result : List ℕ) (x : Answered) : Type 0 where
  pub refused : short_call sums result 2 ≡ true → x ≡ answered short result
  -- else the share stands in the first two numbers, NOPs over words, and those beyond them are as they were
  pub told : short_call sums result 2 ≡ false → x ≡ answered 0 (written (get_or x.result 0 0 ∷ get_or x.result 1 0 ∷ []) result)
  pub shared : short_call sums result 2 ≡ false → NopShare (totals_from sums).nops (totals_from sums).words (share_from x.result)

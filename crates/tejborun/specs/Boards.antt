-- Two boards compared.
use Rattle.std.specs.Prelude.{ℕ, ◌+◌, Bool, true, false, List, [], ◌∷◌, length, ltb}
use Rattle.fields.specs.Fields.{if}
use Rattle.compare.specs.declared.Comparison.{Comparison}
use Rattle.compare.specs.CompareAnswer.{CompareAnswer, Compared, Refused}
use Rattle.compare.specs.Boards.{Board, compare_of, same_of}
use Rattle.compare.specs.Within.{compare_within}
use Rattle.tejborun.specs.Buffers.{short, written, Answered, answered}

-- the first and the count of those that differ: VIF1's quadwords and instructions, entries, VIF0's quadwords and instructions
abbrev pub found_numbers : Comparison → List ℕ
found_numbers c =
    c.vif1.quadwords.first
    ∷ c.vif1.quadwords.count
    ∷ c.vif1.instructions.first
    ∷ c.vif1.instructions.count
    ∷ c.entries.first
    ∷ c.entries.count
    ∷ c.vif0.quadwords.first
    ∷ c.vif0.quadwords.count
    ∷ c.vif0.instructions.first
    ∷ c.vif0.instructions.count
    ∷ []

abbrev pub zeros : List ℕ
zeros = 0 ∷ 0 ∷ 0 ∷ 0 ∷ 0 ∷ 0 ∷ 0 ∷ 0 ∷ 0 ∷ 0 ∷ []

-- 0 where the boards are the same, 1 where they differ
abbrev pub verdict : Bool → ℕ
verdict true = 0
verdict false = 1

-- a refusal is 100 more than its number
abbrev pub compare_answered : CompareAnswer → List ℕ → Answered
compare_answered (Compared c) result = answered (verdict (same_of c)) (written (found_numbers c) result)
compare_answered (Refused n) result = answered (100 + n) (written zeros result)

abbrev pub compared_call : CompareAnswer → List ℕ → Answered
compared_call answer result = if (ltb (length result) 10) (answered short result) (compare_answered answer result)

unfoldable pub compare_call : ℕ → Board → Board → List ℕ → Answered
compare_call parts a b result = compared_call (compare_of parts a b) result

-- the same with data memories compared in quadwords first to last alone
unfoldable pub compare_within_call : ℕ → ℕ → ℕ → Board → Board → List ℕ → Answered
compare_within_call parts first last a b result = compared_call (compare_within parts first last a b) result

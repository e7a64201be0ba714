-- Calls on test sheets. What the builder's call answers and leaves is said by the sheet crate's `exportedNumber` and `buildOf`.
use Rattle.std.specs.Prelude.{ℕ, List, [], ◌∷◌, length, ltb}
use Rattle.fields.specs.Fields.{if}
use Rattle.memories.specs.Lengths.{Lent, lent}
use Rattle.sheet.specs.StepsAnswer.{StepsAnswer, Steps, Refused as StepsRefused}
use Rattle.sheet.specs.MeaningAnswer.{MeaningAnswer, Meant as IsMeant, Refused as MeaningRefused}
use Rattle.sheet.specs.Results.{Left, steps_of_sheet, meaning_of_sheet}
use Rattle.salvage.specs.SalvageAnswer.{SalvageAnswer, Salvaged, Refused as SalvageRefused}
use Rattle.salvage.specs.Salvage.{Left as SalvageLeft, answer_number, salvage_of}
use Rattle.tejborun.specs.Buffers.{short, written, Answered, answered}

-- ---- the steps

-- the steps, 0 where refused, and the offset of the refused record, 0 where there is none
abbrev pub steps_answered : StepsAnswer → List ℕ → Answered
steps_answered (Steps steps) result = answered 0 (written (steps ∷ 0 ∷ []) result)
steps_answered (StepsRefused n offset) result = answered n (written (0 ∷ offset ∷ []) result)

unfoldable pub steps_call : List ℕ → List ℕ → Answered
steps_call sheet result = if (ltb (length result) 2) (answered short result) (steps_answered (steps_of_sheet sheet) result)

-- ---- the meaning

-- what is left: the answer's number, the memories and the result
pub record Meant : Type 0 where
  pub answer : ℕ
  pub memories : Lent
  pub result : List ℕ

abbrev pub meant : ℕ → Lent → List ℕ → Meant
meant n m result = record { answer = n; memories = m; result = result }

-- the entries used afterwards, and the offset of the refused record, 0 where there is none
abbrev pub meaning_answered : MeaningAnswer → Lent → ℕ → List ℕ → Meant
meaning_answered (IsMeant entries) m used result = meant 0 m (written (entries ∷ 0 ∷ []) result)
meaning_answered (MeaningRefused n offset) m used result = meant n m (written (used ∷ offset ∷ []) result)

abbrev pub meaning_left : Left → ℕ → List ℕ → Meant
meaning_left x used result = meaning_answered x.answer (lent x.mem x.code x.log) used result

unfoldable pub meaning_call : List ℕ → Lent → ℕ → List ℕ → Meant
meaning_call sheet m used result =
    if (ltb (length result) 2) (meant short m result) (meaning_left (meaning_of_sheet sheet m.mem m.code m.log used) used result)

-- ---- the salvage

-- what is left: the answer's number, the output, the list of ranges and the result
pub record Rescued : Type 0 where
  pub answer : ℕ
  pub output : List ℕ
  pub ranges : List ℕ
  pub result : List ℕ

abbrev pub rescued : ℕ → List ℕ → List ℕ → List ℕ → Rescued
rescued n output ranges result = record { answer = n; output = output; ranges = ranges; result = result }

-- the bytes and the ranges written, both 0 where refused
abbrev pub salvage_numbers : SalvageAnswer → List ℕ
salvage_numbers (Salvaged bytes ranges) = bytes ∷ ranges ∷ []
salvage_numbers (SalvageRefused n) = 0 ∷ 0 ∷ []

abbrev pub salvage_left : SalvageLeft → List ℕ → Rescued
salvage_left x result = rescued (answer_number x.answer) x.output x.ranges (written (salvage_numbers x.answer) result)

unfoldable pub salvage_call : List ℕ → List ℕ → List ℕ → List ℕ → Rescued
salvage_call sheet output ranges result =
    if (ltb (length result) 2) (rescued short output ranges result) (salvage_left (salvage_of sheet output ranges) result)

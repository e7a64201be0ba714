-- Calls on sheets.
use mathlib.Core.Path.{◌≡◌}
use mathlib.Core.List.{List}
use Prim.Native.Nat.{ℕ, ◌<◌, ◌≤◌}
use borrow.Author.Tests.{lt-ltb, le-ltb}
use lib.ListN.{length}
use Rattle.fields.specs.Fields.{if}
use Rattle.memories.specs.Lengths.{Lent, lent}
use Rattle.sheet.specs.StepsAnswer.{StepsAnswer}
use Rattle.sheet.specs.MeaningAnswer.{MeaningAnswer}
use Rattle.sheet.specs.Results.{left, steps_of_sheet, meaning_of_sheet}
use Rattle.salvage.specs.SalvageAnswer.{SalvageAnswer}
use Rattle.salvage.specs.Salvage.{left as salvageLeaves, answer_number, salvage_of}
use Rattle.tejborun.specs.Buffers.{short, written, Answered, answered}
use Rattle.tejborun.specs.Sheets.{steps_answered, steps_call, Meant, meant, meaning_answered, meaning_call, Rescued, rescued, salvage_numbers, salvage_call}

module _ (sheet result : List ℕ) where
  pub steps_short : length result < 2 → answered short result ≡ steps_call sheet result
  unfolding steps_call if
  steps_short h = rw (lt-ltb (length result) 2 h)

  -- by the steps' answer
  pub steps_told : 2 ≤ length result → {a : StepsAnswer} → a ≡ steps_of_sheet sheet → {x : Answered} → x ≡ steps_answered a result → x ≡ steps_call sheet result
  unfolding steps_call if
  steps_told h e k = rw (le-ltb (length result) 2 h, ← e) k

module _ (sheet : List ℕ) (m : Lent) (used : ℕ) (result : List ℕ) where
  pub meaning_short : length result < 2 → meant short m result ≡ meaning_call sheet m used result
  unfolding meaning_call if
  meaning_short h = rw (lt-ltb (length result) 2 h)

  -- by the meaning's answer
  pub meaning_told : 2 ≤ length result → {a : MeaningAnswer} {mem code log : List ℕ} → left a mem code log ≡ meaning_of_sheet sheet m.mem m.code m.log used
      → {x : Meant}
      → x ≡ meaning_answered a (lent mem code log) used result
      → x ≡ meaning_call sheet m used result
  unfolding meaning_call if
  meaning_told h e k = rw (le-ltb (length result) 2 h, ← e) k

module _ (sheet output ranges result : List ℕ) where
  pub salvage_short : length result < 2 → rescued short output ranges result ≡ salvage_call sheet output ranges result
  unfolding salvage_call if
  salvage_short h = rw (lt-ltb (length result) 2 h)

  -- by the salvage's answer
  pub salvage_told : 2 ≤ length result → {a : SalvageAnswer} {o l : List ℕ} → salvageLeaves a o l ≡ salvage_of sheet output ranges
      → {x : Rescued}
      → x ≡ rescued (answer_number a) o l (written (salvage_numbers a) result)
      → x ≡ salvage_call sheet output ranges result
  unfolding salvage_call if
  salvage_told h e k = rw (le-ltb (length result) 2 h, ← e) k

-- The steps and the meaning of a sheet as functions answer them, refused sheets included.
use Rattle.std.specs.Prelude.{ℕ, ◌+◌, ◌*◌, List, ◌++◌, length, drop, eqb, ltb}
use Rattle.fields.specs.Fields.{if}
use Rattle.fields.specs.Refusals.{log_full}
use Rattle.gif.specs.declared.Entry.{Entry}
use Rattle.gif.specs.Log.{entry_size, numbers, entries_in}
use Rattle.memories.specs.declared.VifUnit.TheVariants.{Vif1}
use Rattle.memories.specs.Lengths.{lent, lengths_refusal}
use Rattle.sheet.specs.StepsAnswer.{StepsAnswer, Steps, Refused as StepsRefused}
use Rattle.sheet.specs.MeaningAnswer.{MeaningAnswer, Meant, Refused as MeaningRefused}
use Rattle.sheet.specs.Reader.{Contents, valid, refused}
use Rattle.sheet.specs.Editions.{contents_of}
use Rattle.sheet.specs.Sizes.{sheet_steps, sheet_entries}
use Rattle.sheet.specs.Meaning.{Plain, plain, meaning_of}

-- the steps of a sheet, or its refusal (46, 40 to 45, 52, 49); request 12: "size and step formulas are sums over the expansion"
abbrev pub steps_in : Contents → StepsAnswer
steps_in (valid rs) = Steps (sheet_steps rs)
steps_in (refused n offset) = StepsRefused n offset

abbrev pub steps_of_sheet : List ℕ → StepsAnswer
steps_of_sheet sheet = steps_in (contents_of sheet)

-- a log whose first entries are these, the numbers past them as they were
abbrev pub log_with : List Entry → List ℕ → List ℕ
log_with es log = numbers es ++ drop (entry_size * length es) log

-- what `meaning` leaves
pub record Left : Type 0 where
  pub answer : MeaningAnswer
  pub mem : List ℕ
  pub code : List ℕ
  pub log : List ℕ

abbrev pub left : MeaningAnswer → List ℕ → List ℕ → List ℕ → Left
left a mem code log = record { answer = a; mem = mem; code = code; log = log }

abbrev pub left_plain : Plain → List ℕ → Left
left_plain x log = left (Meant (length x.entries)) x.mem x.code (log_with x.entries log)

-- the meaning where the log has room for all entries of the sheet, else 31
abbrev pub meaning_in : Contents → List ℕ → List ℕ → List ℕ → ℕ → Left
meaning_in (valid rs) mem code log used =
    if (ltb (length log) (entry_size * (used + sheet_entries rs))) (left (MeaningRefused log_full 0) mem code log)
    (left_plain (meaning_of rs (plain mem code (entries_in log used))) log)
meaning_in (refused n offset) mem code log used = left (MeaningRefused n offset) mem code log

-- the memories' lengths first, as a run on VIF1 tests them: 2, 3, 4
abbrev pub length_refusal : List ℕ → List ℕ → List ℕ → ℕ → ℕ
length_refusal mem code log used = lengths_refusal Vif1 (lent mem code log) used

unfoldable pub meaning_of_sheet : List ℕ → List ℕ → List ℕ → List ℕ → ℕ → Left
meaning_of_sheet sheet mem code log used =
    if (eqb (length_refusal mem code log used) 0) (meaning_in (contents_of sheet) mem code log used)
    (left (MeaningRefused (length_refusal mem code log used) 0) mem code log)

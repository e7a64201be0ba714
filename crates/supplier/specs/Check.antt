-- The check: request 13's "Given sheet, chain, starting memories, an empty log and an allowance, accept exactly if the sheet is valid and a run from reset on channel 1
-- at address 0, tag transfer off, ends with 0 and both memories and the log equal the sheet's meaning. Otherwise name the first difference: the run's answer, then the
-- lowest differing quadword, instruction, log entry that both have, then the run's number of entries."
use Rattle.std.specs.Prelude.{ℕ, false, not, ◌&&◌, List, [], length, eqb, ltb}
use Rattle.fields.specs.declared.Counts.{Counts}
use Rattle.fields.specs.Counts.{none}
use Rattle.fields.specs.Fields.{if}
use Rattle.gif.specs.Log.{entries_in}
use Rattle.memories.specs.declared.VifUnit.TheVariants.{Vif1}
use Rattle.memories.specs.Units.{quadwords, instructions}
use Rattle.memories.specs.Lengths.{Lent}
use Rattle.chain.specs.Answer.{Answer, Done, Allowance, Interrupt, Refused as RunRefused}
use Rattle.chain_state.specs.declared.State.{State}
use Rattle.chain_state.specs.Range.{entry_refusal}
use Rattle.chain_state.specs.Start.{reset_state, start_of}
use Rattle.chain.specs.Run.{Ran, number_of, run_of}
use Rattle.sheet.specs.Records.{Record}
use Rattle.sheet.specs.Reader.{Contents, valid, refused}
use Rattle.sheet.specs.Editions.{contents_of}
use Rattle.sheet.specs.Meaning.{Plain, plain, meaning_of}
use Rattle.sheet.specs.Match.{leading}
use Rattle.compare.specs.Elements.{first_differing}
use Rattle.supplier.specs.CheckAnswer.{CheckAnswer, Accepted, Refused, Stopped, Quadword, Instruction, Entry as EntryDiffers, Entries}

-- "from reset on channel 1 at address 0, tag transfer off"
unfoldable pub begun : State
begun = (start_of reset_state 1 0 false).state

abbrev pub run_from_reset : List ℕ → ℕ → Lent → Ran
run_from_reset main allowance m = run_of main allowance begun m

-- "the sheet's meaning": of the starting memories and a log with no entries
abbrev pub meant_from : List Record → List ℕ → List ℕ → Plain
meant_from rs mem code = meaning_of rs (plain mem code [])

-- ---- "name the first difference", between what a run left with so many entries and a meaning

-- "the lowest differing quadword", the number of all where none differs
abbrev pub lowest_quadword : Lent → Plain → ℕ
lowest_quadword m x = first_differing 4 m.mem x.mem (quadwords Vif1)

-- the same of instructions
abbrev pub lowest_instruction : Lent → Plain → ℕ
lowest_instruction m x = first_differing 8 m.code x.code (instructions Vif1)

-- how many entries before the first that differs
abbrev pub lowest_entry : Lent → ℕ → Plain → ℕ
lowest_entry m used x = leading x.entries (entries_in m.log used)

unfoldable pub difference : Lent → ℕ → Plain → CheckAnswer
difference m used x =
    if (ltb (lowest_quadword m x) (quadwords Vif1)) (Quadword (lowest_quadword m x))
    (if (ltb (lowest_instruction m x) (instructions Vif1)) (Instruction (lowest_instruction m x))
    -- "log entry that both have"
    (if (ltb (lowest_entry m used x) used && ltb (lowest_entry m used x) (length x.entries)) (EntryDiffers (lowest_entry m used x))
    -- "then the run's number of entries"
    (if (not (eqb used (length x.entries))) (Entries used)
    Accepted)))

-- "ends with 0", else "the run's answer", 90 and 91 too
abbrev pub judged : Answer → Lent → ℕ → Plain → CheckAnswer
judged Done m used x = difference m used x
judged Allowance m used x = Stopped Allowance
judged Interrupt m used x = Stopped Interrupt
judged (RunRefused n) m used x = Stopped (RunRefused n)

-- ---- the check

-- what is left: the answer, the run's entries used and counts, and the memories
pub record Checked : Type 0 where
  pub answer : CheckAnswer
  pub used : ℕ
  pub counts : Counts
  pub memories : Lent

abbrev pub checked : CheckAnswer → ℕ → Counts → Lent → Checked
checked a used c m = record { answer = a; used = used; counts = c; memories = m }

-- "Memories and log are left as the run left them."
abbrev pub check_ran : Ran → Plain → Checked
check_ran r x = checked (judged r.answer r.after.memories r.after.state.used x) r.after.state.used r.counts r.after.memories

-- a refusal runs and changes nothing
abbrev pub check_refused : ℕ → ℕ → Lent → Checked
check_refused n offset m = checked (Refused n offset) 0 none m

-- the meaning is that of the memories before the run
abbrev pub check_sheet : Contents → List ℕ → Lent → ℕ → Checked
check_sheet (valid rs) main m allowance = check_ran (run_from_reset main allowance m) (meant_from rs m.mem m.code)
check_sheet (refused n offset) main m allowance = check_refused n offset m

-- "Refusals: entry refusals first, then the sheet's (all but 47)."
unfoldable pub check_of : List ℕ → List ℕ → Lent → ℕ → Checked
check_of sheet main m allowance =
    if (eqb (entry_refusal main m begun) 0) (check_sheet (contents_of sheet) main m allowance)
    (check_refused (entry_refusal main m begun) 0 m)

-- ---- an answer in numbers (docs/FORMATS.md, "Check cases")

abbrev pub check_kind : CheckAnswer → ℕ
check_kind Accepted = 0
check_kind (Refused n offset) = 1
check_kind (Stopped a) = 2
check_kind (Quadword q) = 3
check_kind (Instruction i) = 4
check_kind (EntryDiffers e) = 5
check_kind (Entries n) = 6

abbrev pub check_number : CheckAnswer → ℕ
check_number Accepted = 0
check_number (Refused n offset) = n
check_number (Stopped a) = number_of a
check_number (Quadword q) = q
check_number (Instruction i) = i
check_number (EntryDiffers e) = e
check_number (Entries n) = n

-- the offset of the refused record, 0 where there is none
abbrev pub check_offset : CheckAnswer → ℕ
check_offset Accepted = 0
check_offset (Refused n offset) = offset
check_offset (Stopped a) = 0
check_offset (Quadword q) = 0
check_offset (Instruction i) = 0
check_offset (EntryDiffers e) = 0
check_offset (Entries n) = 0

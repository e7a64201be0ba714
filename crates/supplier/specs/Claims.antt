-- What the check's answers are to mean, over the run and the sheet's meaning.
use Rattle.std.specs.Prelude.{ℕ, ◌*◌, ◌<◌, ◌≤◌, ◌≡◌, List, ◌++◌, length, take, drop}
use Rattle.gif.specs.declared.Entry.{Entry}
use Rattle.gif.specs.Log.{entry_size, entries_in}
use Rattle.memories.specs.declared.VifUnit.TheVariants.{Vif1}
use Rattle.memories.specs.Units.{quadwords, instructions}
use Rattle.memories.specs.Lengths.{Lent}
use Rattle.chain.specs.Answer.{Answer, Done}
use Rattle.chain_state.specs.Range.{entry_refusal}
use Rattle.chain.specs.Run.{Ran}
use Rattle.sheet.specs.BuildAnswer.{Built}
use Rattle.sheet.specs.Records.{Record}
use Rattle.sheet.specs.Reader.{valid, refused}
use Rattle.sheet.specs.Editions.{contents_of}
use Rattle.sheet.specs.Whole.{Bytes}
use Rattle.sheet.specs.Build.{build_of}
use Rattle.sheet.specs.Meaning.{Plain}
use Rattle.conformance.specs.Demand.{records_of, steps_meant}
use Rattle.compare.specs.Equal.{FirstDifference}
use Rattle.supplier.specs.CheckAnswer.{CheckAnswer, Accepted, Refused, Stopped, Quadword, Instruction, Entry as EntryDiffers, Entries}
use Rattle.supplier.specs.Check.{begun, run_from_reset, meant_from, Checked}

-- ---- what a run left beside a meaning

-- "both memories and the log equal the sheet's meaning"
pub record Equal (r : Ran) (x : Plain) : Type 0 where
  pub mem : r.after.memories.mem ≡ x.mem
  pub code : r.after.memories.code ≡ x.code
  pub entries : entries_in r.after.memories.log r.after.state.used ≡ x.entries

-- entry k, which both lists have, is the first that differs
pub record FirstEntry (es fs : List Entry) (k : ℕ) : Type 0 where
  pub inside : (k < length es) × (k < length fs)
  pub before : take k es ≡ take k fs
  pub unequal : take 1 (drop k es) ≡ take 1 (drop k fs) → ⊥

-- the lists have not as many entries, and are the same as far as both go
pub record OtherNumber (es fs : List Entry) : Type 0 where
  pub number : length es ≡ length fs → ⊥
  pub before : (k : ℕ) → k ≤ length es → k ≤ length fs → take k es ≡ take k fs

-- "the first difference": what is named differs, and all that comes before it is equal
pub data Differs (r : Ran) (x : Plain) : CheckAnswer → Type 0 where
  quadword : {q : ℕ} → FirstDifference 4 r.after.memories.mem x.mem (quadwords Vif1) q → Differs r x (Quadword q)
  instruction : {i : ℕ} → r.after.memories.mem ≡ x.mem → FirstDifference 8 r.after.memories.code x.code (instructions Vif1) i
      → Differs r x (Instruction i)
  entry : {e : ℕ} → r.after.memories.mem ≡ x.mem → r.after.memories.code ≡ x.code
      → FirstEntry (entries_in r.after.memories.log r.after.state.used) x.entries e → Differs r x (EntryDiffers e)
  number : {n : ℕ} → r.after.memories.mem ≡ x.mem → r.after.memories.code ≡ x.code
      → n ≡ length (entries_in r.after.memories.log r.after.state.used)
      → OtherNumber (entries_in r.after.memories.log r.after.state.used) x.entries
      → Differs r x (Entries n)

-- ---- what the check says

-- "accept exactly if the sheet is valid and a run from reset on channel 1 at address 0, tag transfer off, ends with 0 and both memories and the log equal the sheet's
-- meaning"
pub record Matches (sheet main : List ℕ) (m : Lent) (allowance : ℕ) : Type 0 where
  pub records : List Record
  pub accepted : contents_of sheet ≡ valid records
  pub ended : (run_from_reset main allowance m).answer ≡ Done
  pub equal : Equal (run_from_reset main allowance m) (meant_from records m.mem m.code)

-- what each answer means
pub data Says (sheet main : List ℕ) (m : Lent) (allowance : ℕ) : CheckAnswer → Type 0 where
  matches : Matches sheet main m allowance → Says sheet main m allowance Accepted
  -- "entry refusals first"
  refused_entry : {n : ℕ} → entry_refusal main m begun ≡ n → (n ≡ 0 → ⊥) → Says sheet main m allowance (Refused n 0)
  -- "then the sheet's"
  refused_sheet : {n offset : ℕ} → entry_refusal main m begun ≡ 0 → contents_of sheet ≡ refused n offset → Says sheet main m allowance (Refused n offset)
  -- "the run's answer"
  stopped : {a : Answer} (rs : List Record) → entry_refusal main m begun ≡ 0 → contents_of sheet ≡ valid rs → (run_from_reset main allowance m).answer ≡ a
      → (a ≡ Done → ⊥)
      → Says sheet main m allowance (Stopped a)
  differs : {a : CheckAnswer} (rs : List Record) → contents_of sheet ≡ valid rs → (run_from_reset main allowance m).answer ≡ Done
      → Differs (run_from_reset main allowance m) (meant_from rs m.mem m.code) a
      → Says sheet main m allowance a

-- ---- "The chain our builder makes of the sheet is accepted when allowance and log suffice."

pub record BuiltHere (sheet output main : List ℕ) (size allowance : ℕ) (m : Lent) : Type 0 where
  -- what Rattle's types give: the sheet's bytes are below 256
  pub bytes : Bytes sheet
  -- the builder accepts, and main memory begins with the chain that it made
  pub built : (build_of sheet output).answer ≡ Built size
  pub rest : List ℕ
  pub placed : main ≡ take size (build_of sheet output).output ++ rest
  -- the memories' lengths are accepted
  pub entered : entry_refusal main m begun ≡ 0
  -- "when allowance and log suffice"
  pub room : entry_size * length (meant_from (records_of sheet) m.mem m.code).entries ≤ length m.log
  pub allowed : steps_meant sheet ≤ allowance

-- accepted, in the sheet's steps and with its entries
pub record AcceptedWhole (sheet : List ℕ) (m : Lent) (r : Checked) : Type 0 where
  pub accepted : r.answer ≡ Accepted
  pub steps : r.counts.steps ≡ steps_meant sheet
  pub used : r.used ≡ length (meant_from (records_of sheet) m.mem m.code).entries

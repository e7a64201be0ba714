-- Demand 3: a built chain anywhere in main memory, started and run from any acceptable saved state, ends with done in exactly the sheet's steps and leaves
-- exactly the sheet's plain meaning.
use Rattle.std.specs.Prelude.{ℕ, ◌*◌, ◌%◌, ◌≤◌, false, List, [], ◌++◌, ◌≡◌, length, take, drop, None}
use Rattle.gif.specs.Log.{entry_size, entries_in}
use Rattle.memories.specs.Lengths.{Lent}
use Rattle.vif_codes.specs.declared.Waiting.TheVariants.{Nothing}
use Rattle.chain.specs.Answer.{Done}
use Rattle.chain_state.specs.StartAnswer.{Started}
use Rattle.chain_state.specs.declared.State.{State}
use Rattle.chain_state.specs.Range.{entry_refusal}
use Rattle.chain_state.specs.Start.{start_of}
use Rattle.chain.specs.Run.{Ran, run_of}
use Rattle.sheet.specs.BuildAnswer.{Built}
use Rattle.sheet.specs.Records.{Record}
use Rattle.sheet.specs.Reader.{Contents, valid, refused}
use Rattle.sheet.specs.Editions.{contents_of}
use Rattle.sheet.specs.Whole.{Bytes}
use Rattle.sheet.specs.Sizes.{sheet_steps}
use Rattle.sheet.specs.Build.{build_of}
use Rattle.sheet.specs.Meaning.{Plain, plain, meaning_of}

-- a sheet's records; none where it is refused
abbrev pub records_in : Contents → List Record
records_in (valid rs) = rs
records_in (refused n offset) = []

unfoldable pub records_of : List ℕ → List Record
records_of sheet = records_in (contents_of sheet)

-- "A sheet's steps are the sum over its records and the end tag."
abbrev pub steps_meant : List ℕ → ℕ
steps_meant sheet = sheet_steps (records_of sheet)

-- its plain meaning, from what the run gets: the memories and the entries used of the log
abbrev pub means_from : List ℕ → State → Lent → Plain
means_from sheet s m = meaning_of (records_of sheet) (plain m.mem m.code (entries_in m.log s.used))

-- what Rattle's types give: the sheet's bytes are below 256, and ROW has four words
pub record Typed (sheet : List ℕ) (s : State) : Type 0 where
  pub bytes : Bytes sheet
  pub row : length s.vif1.row ≡ 4

-- the premises of demand 3, these and no others
pub record Premises (sheet output main : List ℕ) (a size allowance : ℕ) (s : State) (m : Lent) : Type 0 where
  -- the builder accepts, and its chain is the first bytes of the output that it leaves
  pub built : (build_of sheet output).answer ≡ Built size
  -- the chain lies at a in main memory, a multiple of 16
  pub rest : List ℕ
  pub placed : drop a main ≡ take size (build_of sheet output).output ++ rest
  pub aligned : a % 16 ≡ 0
  -- both entry tests pass: of the start on channel 1, and of the run on what it left
  pub started : (start_of s 1 a false).answer ≡ Started
  pub entered : entry_refusal main m (start_of s 1 a false).state ≡ 0
  -- nothing waits in VIF1, and path 2 is idle
  pub idle : s.vif1.waiting ≡ Nothing
  pub path_idle : s.path2.place ≡ None
  -- the log has room for every entry of the meaning
  pub room : entry_size * length (means_from sheet s m).entries ≤ length m.log
  -- the allowance is at least the sheet's steps
  pub allowed : steps_meant sheet ≤ allowance

-- the run of demand 3
abbrev pub run_from : List ℕ → ℕ → ℕ → State → Lent → Ran
run_from main a allowance s m = run_of main allowance (start_of s 1 a false).state m

-- its conclusion
pub record Conclusion (sheet main : List ℕ) (a allowance : ℕ) (s : State) (m : Lent) : Type 0 where
  -- the run ends with done in exactly the sheet's steps
  pub done : (run_from main a allowance s m).answer ≡ Done
  pub steps : (run_from main a allowance s m).counts.steps ≡ steps_meant sheet
  -- and leaves exactly the sheet's plain meaning: both memories
  pub mem : (run_from main a allowance s m).after.memories.mem ≡ (means_from sheet s m).mem
  pub code : (run_from main a allowance s m).after.memories.code ≡ (means_from sheet s m).code
  -- the list of entries in the log, and their number
  pub used : (run_from main a allowance s m).after.state.used ≡ length (means_from sheet s m).entries
  pub entries : entries_in (run_from main a allowance s m).after.memories.log (run_from main a allowance s m).after.state.used
      ≡ (means_from sheet s m).entries
  -- the log's length and its numbers past the list stay
  pub log_length_lem : length (run_from main a allowance s m).after.memories.log ≡ length m.log
  pub log_rest : drop (entry_size * length (means_from sheet s m).entries) (run_from main a allowance s m).after.memories.log
      ≡ drop (entry_size * length (means_from sheet s m).entries) m.log

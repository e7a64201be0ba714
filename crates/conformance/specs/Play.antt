-- A sheet built in main memory, started and run: the builder, the start and the run one after another.
use Rattle.std.specs.Prelude.{ℕ, ◌*◌, ◌≤◌, false, not, ◌&&◌, List, ◌++◌, ◌≡◌, length, take, drop, eqb, None}
use Rattle.fields.specs.declared.Counts.{Counts}
use Rattle.fields.specs.Counts.{none}
use Rattle.fields.specs.Fields.{if}
use Rattle.fields.specs.Refusals.{main_length, out_of_range}
use Rattle.gif.specs.Log.{entry_size, entries_in}
use Rattle.memories.specs.declared.VifUnit.TheVariants.{Vif1}
use Rattle.memories.specs.Lengths.{Lent, lengths_refusal}
use Rattle.vif_codes.specs.declared.Waiting.TheVariants.{Nothing}
use Rattle.chain.specs.Answer.{Done}
use Rattle.chain_state.specs.declared.State.{State}
use Rattle.chain_state.specs.Range.{main_refused, state_in_range, start_in_range}
use Rattle.chain_state.specs.Start.{start_of}
use Rattle.chain.specs.Run.{Ran, number_of, run_of}
use Rattle.sheet.specs.BuildAnswer.{BuildAnswer, Built, Refused as BuildRefused}
use Rattle.sheet.specs.Build.{Left, build_of}
use Rattle.conformance.specs.Demand.{steps_meant, means_from}
use Rattle.conformance.specs.PlayAnswer.{PlayAnswer, Ended, Refused}

-- the refusals before the sheet's: 1 to 4 as a run refuses lengths, 5 as a start refuses the state or the address; 0 where there is none
unfoldable pub play_refusal : List ℕ → Lent → State → ℕ → ℕ
play_refusal main m s a =
    if (main_refused (length main)) main_length
    (if (not (eqb (lengths_refusal Vif1 m s.used) 0)) (lengths_refusal Vif1 m s.used)
    (if (not (state_in_range s && start_in_range 1 a false)) out_of_range
    0))

-- what is left: the answer, the state, the counts over the completed steps, main memory and the other memories
pub record Played : Type 0 where
  pub answer : PlayAnswer
  pub state : State
  pub counts : Counts
  pub main : List ℕ
  pub memories : Lent

abbrev pub played : PlayAnswer → State → Counts → List ℕ → Lent → Played
played a s c main m = record { answer = a; state = s; counts = c; main = main; memories = m }

-- a refusal changes nothing
abbrev pub play_refused : ℕ → ℕ → State → List ℕ → Lent → Played
play_refused n offset s main m = played (Refused n offset) s none main m

-- the run on what the builder and the start left
abbrev pub play_ran : Ran → List ℕ → Played
play_ran r main = played (Ended r.answer) r.after.state r.counts main r.after.memories

-- by the builder's answer; its output is main memory from the address on
abbrev pub play_built : BuildAnswer → List ℕ → List ℕ → ℕ → State → Lent → ℕ → Played
play_built (BuildRefused n offset) built main a s m allowance = play_refused n offset s main m
play_built (Built size) built main a s m allowance =
    play_ran (run_of (take a main ++ built) allowance (start_of s 1 a false).state m) (take a main ++ built)

abbrev pub play_with : Left → List ℕ → ℕ → State → Lent → ℕ → Played
play_with b main a s m allowance = play_built b.answer b.output main a s m allowance

unfoldable pub play_of : List ℕ → List ℕ → ℕ → State → Lent → ℕ → Played
play_of sheet main a s m allowance =
    if (eqb (play_refusal main m s a) 0) (play_with (build_of sheet (drop a main)) main a s m allowance)
    (play_refused (play_refusal main m s a) 0 s main m)

-- the number of an answer
abbrev pub play_number : PlayAnswer → ℕ
play_number (Ended r) = number_of r
play_number (Refused n offset) = n

-- demand 3's premises where the chain is built at a in main memory
pub record PlayPremises (sheet main : List ℕ) (a allowance : ℕ) (s : State) (m : Lent) : Type 0 where
  -- the lengths, the state and the address are accepted
  pub passed : play_refusal main m s a ≡ 0
  -- the builder accepts the sheet, with main memory from the address on as its output
  pub size : ℕ
  pub built : (build_of sheet (drop a main)).answer ≡ Built size
  -- nothing waits in VIF1, and path 2 is idle
  pub idle : s.vif1.waiting ≡ Nothing
  pub path_idle : s.path2.place ≡ None
  -- the log has room for every entry of the meaning
  pub room : entry_size * length (means_from sheet s m).entries ≤ length m.log
  -- the allowance is at least the sheet's steps
  pub allowed : steps_meant sheet ≤ allowance

-- and its conclusion, of what is left
pub record PlayConclusion (sheet main : List ℕ) (a : ℕ) (s : State) (m : Lent) (r : Played) : Type 0 where
  -- "the run ends with done in exactly that many steps"
  pub done : r.answer ≡ Ended Done
  pub steps : r.counts.steps ≡ steps_meant sheet
  -- main memory has the builder's output from the address on
  pub main_memory : r.main ≡ take a main ++ (build_of sheet (drop a main)).output
  -- both memories "equal what the sheet's plain meaning makes of those the run was lent"
  pub mem : r.memories.mem ≡ (means_from sheet s m).mem
  pub code : r.memories.code ≡ (means_from sheet s m).code
  -- the list of entries in the log, and their number
  pub used : r.state.used ≡ length (means_from sheet s m).entries
  pub entries : entries_in r.memories.log r.state.used ≡ (means_from sheet s m).entries
  -- the log's length and its numbers past the list stay
  pub log_length_lem : length r.memories.log ≡ length m.log
  pub log_rest : drop (entry_size * length (means_from sheet s m).entries) r.memories.log
      ≡ drop (entry_size * length (means_from sheet s m).entries) m.log

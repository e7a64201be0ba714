-- Facts that inner functions require of their input or promise; no promise of a public function cites them.
use Rattle.std.specs.Prelude.{ℕ, ◌+◌, ◌*◌, ◌/◌, ◌%◌, ◌≤◌, Bool, true, false, List, ◌≡◌, length, eqb, None}
use Rattle.fields.specs.declared.Counts.{Counts}
use Rattle.fields.specs.declared.UnitCounts.{UnitCounts}
use Rattle.fields.specs.Fields.{if}
use Rattle.gif.specs.Log.{log_refused}
use Rattle.gif.specs.Range.{path_in_range}
use Rattle.memories.specs.Lengths.{Lent}
use Rattle.chain.specs.Answer.{Interrupt, Refused as AnswerRefused}
use Rattle.chain.specs.declared.BurstResult.{BurstResult}
use Rattle.chain_state.specs.declared.Payload.{Payload}
use Rattle.chain_state.specs.declared.Payload.TheVariants.{Words}
use Rattle.chain.specs.StepAnswer.{StepAnswer, Completed, Refused}
use Rattle.chain_state.specs.declared.State.{State}
use Rattle.chain_state.specs.Range.{entry_refusal}
use Rattle.chain.specs.Step.{Machine}
use Rattle.chain.specs.Run.{ran, steps_of}
use Rattle.chain.specs.Stops.{Reaches}

-- the machine passes the entry tests
pub record Ready (main : List ℕ) (s : State) (m : Lent) : Type 0 where
  pub passed : entry_refusal main m s ≡ 0

-- the quadword that holds the word at an address lies inside main memory
pub record WordInside (main : List ℕ) (a : ℕ) : Type 0 where
  pub inside : 16 * (a / 16 + 1) ≤ length main
  pub most : length main ≤ 1048576

-- pending payload lies inside
pub record PayloadInside (main : List ℕ) (s : State) (at n : ℕ) : Type 0 where
  pub some : 1 ≤ n
  pub few : n ≤ 262140
  pub aligned : at % 4 ≡ 0
  pub whole : (at / 4 + n) % 4 ≡ 0
  pub inside : at + 4 * n ≤ length main
  pub most : length main ≤ 1048576
  pub quadwords : s.channel ≡ 2 → at % 16 ≡ 0

-- a quadword at an address lies inside, and path 3 and the log pass the GIF's tests
pub record QuadwordReady (main : List ℕ) (a : ℕ) (s : State) (log : List ℕ) : Type 0 where
  pub inside : a + 16 ≤ length main
  pub most : length main ≤ 1048576
  pub logged : log_refused log s.used ≡ false
  pub ranged : path_in_range s.path3 ≡ true

-- what is pending of the payload after one word, and after a quadword
abbrev pub by_taken : Payload → Payload → ℕ → Payload
by_taken one four k = if (eqb k 1) one four

-- payload is pending and no tag words
pub record PayloadNext (s : State) (at n : ℕ) : Type 0 where
  pub no_tags_lem : s.tags ≡ None
  pub payload : s.payload ≡ Words at n
  pub some : n ≡ 0 → ⊥

abbrev pub burst_result : State → UnitCounts → Bool → BurstResult
burst_result s c i = record { state = s; counts = c; interrupt = i }

-- some steps of a run of at most n, from x to y: i says whether the last of them was an interrupt mark, at which the run stops
pub record Burst (main : List ℕ) (n : ℕ) (x : Machine) (i : Bool) (c : Counts) (y : Machine) : Type 0 where
  pub few : c.steps ≤ n
  pub some : i ≡ true → 1 ≤ c.steps
  pub goes : i ≡ false → Reaches main c x y
  pub stops : i ≡ true → steps_of main n x.state x.memories ≡ ran Interrupt y.state c y.memories

-- some steps of a run of at most n, from x to y, at least one, and the answer to the last; or none, and the refusal of the first, at which the run stops
pub record Advance (main : List ℕ) (n : ℕ) (x : Machine) (a : StepAnswer) (c : Counts) (y : Machine) : Type 0 where
  pub few : c.steps ≤ n
  pub some : a ≡ Completed false → 1 ≤ c.steps
  pub goes : a ≡ Completed false → Reaches main c x y
  pub interrupts : a ≡ Completed true → steps_of main n x.state x.memories ≡ ran Interrupt y.state c y.memories
  pub refuses : (k : ℕ) → a ≡ Refused k → steps_of main n x.state x.memories ≡ ran (AnswerRefused k) y.state c y.memories

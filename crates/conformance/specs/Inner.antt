-- What the inner functions promise.
use Rattle.std.specs.Prelude.{ℕ, ◌≡◌, List, ◌++◌, length, take, drop, ltb, Result, Ok, Err}
use Rattle.fields.specs.Fields.{if}
use Rattle.fields.specs.Refusals.{refusal_number, main_length}
use Rattle.memories.specs.declared.VifUnit.TheVariants.{Vif1}
use Rattle.memories.specs.Lengths.{Lent, lengths_refusal}
use Rattle.chain_state.specs.declared.State.{State}
use Rattle.chain_state.specs.Range.{main_refused}
use Rattle.chain.specs.Run.{run_of}
use Rattle.sheet.specs.declared.SheetError.{SheetError}
use Rattle.sheet.specs.Build.{Left, left, build_of}
use Rattle.conformance.specs.Play.{play_refused, play_ran, play_of}

-- the refusal of the memories' lengths, main memory first, 0 where there is none
unfoldable pub memories_refusal : List ℕ → Lent → ℕ → ℕ
memories_refusal main m used = if (main_refused (length main)) main_length (lengths_refusal Vif1 m used)

-- an address, or the end of a memory where it lies beyond
unfoldable pub place_of : ℕ → ℕ → ℕ
place_of a size = if (ltb size a) size a

-- the builder's answer, and main memory with its output from the address on
unfoldable pub built_at : List ℕ → List ℕ → ℕ → Left
built_at sheet main a = left (build_of sheet (drop a main)).answer (take a main ++ (build_of sheet (drop a main)).output)

-- what is done before the run, and main memory after it: a refusal is the whole answer, and the run from the state that is begun is it
pub record Begins (r : Result State SheetError) (sheet main after : List ℕ) (a : ℕ) (s : State) (m : Lent) : Type 0 where
  pub refused : (e : SheetError) → r ≡ Err e → (allowance : ℕ) → play_refused (refusal_number e.refusal) e.offset s after m ≡ play_of sheet main a s m allowance
  pub begun : (t : State) → r ≡ Ok t → (allowance : ℕ) → play_ran (run_of after allowance t m) after ≡ play_of sheet main a s m allowance

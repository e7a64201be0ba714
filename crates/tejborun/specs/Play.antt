-- A sheet's chain built in main memory, started and run.
use Rattle.std.specs.Prelude.{ℕ, ◌+◌, Bool, true, false, ◌||◌, List, ◌∷◌, length, ltb}
use Rattle.fields.specs.Counts.{count_numbers}
use Rattle.fields.specs.Fields.{if}
use Rattle.memories.specs.Lengths.{Lent}
use Rattle.state_block.specs.StateBlock.{state_in_block}
use Rattle.conformance.specs.PlayAnswer.{PlayAnswer, Ended, Refused}
use Rattle.conformance.specs.Play.{Played, play_of, play_number}
use Rattle.tejborun.specs.Buffers.{short, wrong_block, written, written_back}
use Rattle.tejborun.specs.Runs.{counts_size}

-- the offset of the refused record, 0 where there is none
abbrev pub play_offset : PlayAnswer → ℕ
play_offset (Ended r) = 0
play_offset (Refused n offset) = offset

-- what is left: the answer's number, main memory, the other memories, the block and the result
pub record Left : Type 0 where
  pub answer : ℕ
  pub main : List ℕ
  pub memories : Lent
  pub block : List ℕ
  pub result : List ℕ

abbrev pub left : ℕ → List ℕ → Lent → List ℕ → List ℕ → Left
left n main m block result = record { answer = n; main = main; memories = m; block = block; result = result }

-- what is refused before the run leaves the block word for word
abbrev pub begun : PlayAnswer → Bool
begun (Ended r) = true
begun (Refused n offset) = false

-- the offset, then the counts
abbrev pub play_left : Played → List ℕ → List ℕ → Left
play_left x block result =
    left (play_number x.answer) x.main x.memories (written_back (begun x.answer) x.state block) (written (play_offset x.answer ∷ count_numbers x.counts) result)

unfoldable pub play_call : List ℕ → List ℕ → ℕ → Lent → List ℕ → ℕ → List ℕ → Left
play_call sheet main address m block allowance result =
    if (wrong_block block || ltb (length result) (1 + counts_size)) (left short main m block result)
    (play_left (play_of sheet main address (state_in_block block).state m allowance) block result)

-- Calls on a state block: reset, start, set and run.
use Rattle.std.specs.Prelude.{ℕ, Bool, true, false, not, ◌||◌, List, length, eqb, ltb}
use Rattle.fields.specs.Counts.{count_numbers}
use Rattle.fields.specs.Fields.{if}
use Rattle.memories.specs.Lengths.{Lent}
use Rattle.chain_state.specs.StartAnswer.{StartAnswer, Started, Refused}
use Rattle.state_block.specs.StateBlock.{state_block, state_in_block}
use Rattle.chain_state.specs.Start.{StartResult, reset_state, start_number, start_of}
use Rattle.chain.specs.Run.{Ran, number_of, run_of}
use Rattle.console.specs.Register.{set_number}
use Rattle.console.specs.Block.{SetBlock, set_in_block}
use Rattle.tejborun.specs.Buffers.{short, wrong_block, written, written_back}

-- ---- reset and start

-- what is left: the answer's number and the block
pub record Blocked : Type 0 where
  pub answer : ℕ
  pub block : List ℕ

abbrev pub blocked : ℕ → List ℕ → Blocked
blocked n block = record { answer = n; block = block }

unfoldable pub reset_call : List ℕ → Blocked
reset_call block = if (wrong_block block) (blocked short block) (blocked 0 (state_block reset_state))

-- a start that is refused leaves the block word for word
abbrev pub started : StartAnswer → Bool
started Started = true
started (Refused n) = false

abbrev pub start_left : StartResult → List ℕ → Blocked
start_left x block = blocked (start_number x.answer) (written_back (started x.answer) x.state block)

-- a tag transfer above 1 is a start value out of its range
unfoldable pub start_call : List ℕ → ℕ → ℕ → ℕ → Blocked
start_call block channel tadr tte =
    if (wrong_block block) (blocked short block)
    (if (ltb 1 tte) (blocked 5 block)
    (start_left (start_of (state_in_block block).state channel tadr (eqb tte 1)) block))

-- ---- set

-- request 7, in the block of a state: the answer's number, and the block afterwards
abbrev pub set_left : SetBlock → Blocked
set_left x = blocked (set_number x.answer) x.block

unfoldable pub set_call : List ℕ → ℕ → ℕ → ℕ → Blocked
set_call block unit number value = if (wrong_block block) (blocked short block) (set_left (set_in_block block unit number value))

-- ---- run

-- what is left: the answer's number, the memories, the block and the result
pub record Left : Type 0 where
  pub answer : ℕ
  pub memories : Lent
  pub block : List ℕ
  pub result : List ℕ

abbrev pub left : ℕ → Lent → List ℕ → List ℕ → Left
left n m block result = record { answer = n; memories = m; block = block; result = result }

-- a run that completes no step leaves the block word for word; request 9: "an allowance of 0 changes nothing"
abbrev pub moved : Ran → Bool
moved x = not (eqb x.counts.steps 0)

-- how many numbers a run's counts are
abbrev pub counts_size : ℕ
counts_size = 12

-- request 14: "Each run hands back its counts over completed steps"
abbrev pub run_left : Ran → List ℕ → List ℕ → Left
run_left x block result =
    left (number_of x.answer) x.after.memories (written_back (moved x) x.after.state block) (written (count_numbers x.counts) result)

unfoldable pub run_call : List ℕ → Lent → List ℕ → ℕ → List ℕ → Left
run_call main m block allowance result =
    if (wrong_block block || ltb (length result) counts_size) (left short m block result)
    (run_left (run_of main allowance (state_in_block block).state m) block result)

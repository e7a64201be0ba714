-- A history on channel 1: a run that its allowance stops with payload pending, one whose next word but one is refused, and one that is refused at its entry. And a
-- run on channel 2.
use Rattle.std.specs.Prelude.{ℕ, false, List, [], ◌∷◌, ◌++◌, replicate}
use Rattle.memories.specs.declared.VifUnit.TheVariants.{Vif1}
use Rattle.memories.specs.Units.{data_words, code_bytes}
use Rattle.memories.specs.Lengths.{Lent, lent}
use Rattle.chain_state.specs.declared.State.{State}
use Rattle.chain_state.specs.Start.{reset_state, start_of}
use Rattle.chain.specs.Run.{Ran, run_of}
use Rattle.totals.specs.declared.Totals.{Totals}
use Rattle.totals.specs.Totals.{no_totals, add_of}
use Rattle.history.specs.Trace.{Event, trace_of}

-- a cnt tag with one quadword of payload: two NOPs, CMD 08, which is not listed, and a NOP
abbrev pub bytes : List ℕ
bytes =
    0x01 ∷ 0x00 ∷ 0x00 ∷ 0x10 ∷ replicate 12 0
    ++ (0x00 ∷ 0x00 ∷ 0x00 ∷ 0x00 ∷ 0x00 ∷ 0x00 ∷ 0x00 ∷ 0x00 ∷ 0x00 ∷ 0x00 ∷ 0x00 ∷ 0x08 ∷ 0x00 ∷ 0x00 ∷ 0x00 ∷ 0x00 ∷ [])

-- data memory, code memory and an empty log
abbrev pub blank : Lent
blank = lent (replicate (data_words Vif1) 0) (replicate (code_bytes Vif1) 0) []

abbrev pub start_state : State
start_state = (start_of reset_state 1 0 false).state

-- the tag and one word
unfoldable pub first : Ran
first = run_of bytes 2 start_state blank

-- on what it left: one word more, then the refusal
unfoldable pub second : Ran
second = run_of bytes 9 first.after.state first.after.memories

-- no memories are lent
unfoldable pub third : Ran
third = run_of bytes 9 second.after.state (lent [] [] [])

-- what they took, and the totals with their counts
abbrev pub taken : List Event
taken = (([] ++ trace_of bytes 2 start_state blank) ++ trace_of bytes 9 first.after.state first.after.memories) ++ trace_of bytes 9 second.after.state (lent [] [] [])

unfoldable pub totals_after : Totals
totals_after = (add_of (add_of (add_of no_totals first.counts).totals second.counts).totals third.counts).totals

-- the tag and one quadword of two, a GIF tag with NLOOP 0
abbrev pub gif_bytes : List ℕ
gif_bytes = 0x02 ∷ 0x00 ∷ 0x00 ∷ 0x10 ∷ replicate 44 0

unfoldable pub gif_run : Ran
gif_run = run_of gif_bytes 2 (start_of reset_state 2 0 false).state blank

-- The ranges behind refusal 5, and the entry refusals: document 01's "Entry, in this order, zero steps".
use Rattle.std.specs.Prelude.{ℕ, ◌+◌, ◌*◌, ◌/◌, ◌%◌, ◌^◌, Bool, true, not, ◌&&◌, ◌||◌, List, length, eqb, leb, ltb, None, Option, Some}
use Rattle.fields.specs.Fields.{if}
use Rattle.fields.specs.Refusals.{main_length, out_of_range, payload_outside}
use Rattle.gif.specs.Range.{path_in_range}
use Rattle.memories.specs.declared.VifUnit.{VifUnit}
use Rattle.memories.specs.declared.VifUnit.TheVariants.{Vif0, Vif1}
use Rattle.memories.specs.Lengths.{Lent, lengths_refusal}
use Rattle.vif_codes.specs.Range.{unit_in_range}
use Rattle.chain_state.specs.declared.Stack.{Stack}
use Rattle.chain_state.specs.declared.Stack.TheVariants.{Empty, One, Two}
use Rattle.chain_state.specs.declared.Payload.{Payload}
use Rattle.chain_state.specs.declared.Payload.TheVariants.{Nothing as NoPayload, Words}
use Rattle.chain_state.specs.declared.State.{State}

-- Request 10: "On channel 0 tag words go to VIF0"; "2 and 3 test VIF0's sizes on channel 0, else VIF1's": the unit by the channel, also by one that is out of
-- its range
unfoldable pub unit_of : ℕ → VifUnit
unit_of channel = if (eqb channel 0) Vif0 Vif1

-- "5 a state or start value outside the range of its field (TADR a multiple of 16 below 2^31, channel 1 or 2, TTE on channel 2)": TTE is off on channel 2.
-- Request 10: "5 admits channel 0".
unfoldable pub channel_in_range : ℕ → Bool → Bool
channel_in_range channel tte = eqb channel 0 || (eqb channel 1 || (eqb channel 2 && not tte))

unfoldable pub start_in_range : ℕ → ℕ → Bool → Bool
start_in_range channel tadr tte = channel_in_range channel tte && (eqb (tadr % 16) 0 && ltb tadr (2 ^ 31))

-- "multiples of 16 up to 1,048,576"
unfoldable pub entry_in_range : ℕ → Bool
entry_in_range a = eqb (a % 16) 0 && leb a 1048576

-- "the stack if it has at most two entries, multiples of 16 up to 1,048,576"
unfoldable pub stack_in_range : Stack → Bool
stack_in_range Empty = true
stack_in_range (One a) = entry_in_range a
stack_in_range (Two a b) = entry_in_range a && entry_in_range b

-- "pending tag words only with TTE on, the last being word 3": the next one is word 2 or 3 of its quadword
unfoldable pub tag_word_in_range : ℕ → Bool → Bool
tag_word_in_range a tte = tte && (eqb (a % 4) 0 && leb 2 (a / 4 % 4))

unfoldable pub tags_in_range : Option ℕ → Bool → Bool
tags_in_range None tte = true
tags_in_range (Some a) tte = tag_word_in_range a tte

-- "pending payload if it starts at a word (channel 2: a quadword), ends with a quadword and is at most 65,535 quadwords"
unfoldable pub words_in_range : ℕ → ℕ → ℕ → Bool
words_in_range channel at n =
    eqb n 0
    || (eqb (at % 4) 0 && ((not (eqb channel 2) || eqb (at % 16) 0) && (leb n 262140 && eqb ((at / 4 + n) % 4) 0)))

unfoldable pub payload_in_range : Payload → ℕ → Bool
payload_in_range NoPayload channel = true
payload_in_range (Words at n) channel = words_in_range channel at n

-- request 10: "The state keeps its registers and waiting code apart from VIF1's"; both are tested on every channel
unfoldable pub state_in_range : State → Bool
state_in_range s =
    start_in_range s.channel s.tadr s.tte
    && (stack_in_range s.stack
    && ((tags_in_range s.tags s.tte && payload_in_range s.payload s.channel)
    && ((unit_in_range Vif0 s.vif0 && unit_in_range Vif1 s.vif1) && (path_in_range s.path2 && path_in_range s.path3))))

-- "1 main memory length 0, not a multiple of 16 or above 1,048,576"
unfoldable pub main_refused : ℕ → Bool
main_refused size = eqb size 0 || (not (eqb (size % 16) 0) || ltb 1048576 size)

-- "14 pending words outside this main memory"; "the last being word 3": the whole quadword of pending tag words lies inside
unfoldable pub tags_inside : Option ℕ → ℕ → Bool
tags_inside None size = true
tags_inside (Some a) size = leb (16 * (a / 16 + 1)) size

unfoldable pub payload_inside : Payload → ℕ → Bool
payload_inside NoPayload size = true
payload_inside (Words at n) size = eqb n 0 || leb (at + 4 * n) size

-- the entry refusal, 0 where there is none
unfoldable pub entry_refusal : List ℕ → Lent → State → ℕ
entry_refusal main m s =
    if (main_refused (length main)) main_length
    (if (not (eqb (lengths_refusal (unit_of s.channel) m s.used) 0)) (lengths_refusal (unit_of s.channel) m s.used)
    (if (not (state_in_range s)) out_of_range
    (if (not (tags_inside s.tags (length main) && payload_inside s.payload (length main))) payload_outside
    0)))

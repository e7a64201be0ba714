-- Request 6, of the chain: "the address (of the tag, the VIF word or the GIF quadword) and the contents of the field at fault: 11 ADDR, 12 SPR", "10 shows the
-- TADR, 13 the stack depth", "14 shows QWC and the most that fits".
use Rattle.std.specs.Prelude.{ℕ, ◌-◌, ◌/◌, List, length, eqb, None, Option, Some}
use Rattle.fields.specs.Fields.{if, bits}
use Rattle.fields.specs.Memory.{long_at}
use Rattle.fields.specs.Refusals.{tadr_outside, addr_unaligned, scratchpad_set, stack_full, payload_outside}
use Rattle.chain_state.specs.declared.Stack.{Stack}
use Rattle.chain_state.specs.declared.Stack.TheVariants.{Empty, One, Two}
use Rattle.chain_state.specs.declared.Payload.{Payload}
use Rattle.chain_state.specs.declared.Payload.TheVariants.{Nothing as NoPayload, Words}
use Rattle.chain_state.specs.declared.State.{State}
use Rattle.chain.specs.Tags.{qwc_of, id_of, addr_of, payload_at}
use Rattle.gif_reason.specs.declared.Numbers.{Numbers}
use Rattle.gif_reason.specs.Reason.{numbers}

-- "the stack depth"
abbrev pub stack_depth : Stack → ℕ
stack_depth Empty = 0
stack_depth (One a) = 1
stack_depth (Two a b) = 2

-- "the most that fits": whole quadwords from the payload's start to the memory's end, none at or beyond it
unfoldable pub most_fits : ℕ → ℕ → ℕ
most_fits size start = (size - start) / 16

-- what a tag's refusal shows
unfoldable pub read_numbers : ℕ → ℕ → ℕ → State → Numbers
read_numbers r size tag s =
    if (eqb r tadr_outside) (numbers s.tadr 0)
    (if (eqb r addr_unaligned) (numbers (addr_of tag) 0)
    (if (eqb r scratchpad_set) (numbers (bits tag 63 63) 0)
    (if (eqb r stack_full) (numbers (stack_depth s.stack) 0)
    (if (eqb r payload_outside) (numbers (qwc_of tag) (most_fits size (payload_at (id_of tag) (addr_of tag) s.tadr)))
    (numbers 0 0)))))

abbrev pub tag_numbers : ℕ → List ℕ → State → Numbers
tag_numbers r main s = read_numbers r (length main) (long_at main s.tadr) s

-- where a step reads its payload's next word or quadword, or the next tag
abbrev pub payload_place : Payload → State → ℕ
payload_place NoPayload s = s.tadr
payload_place (Words at n) s = if (eqb n 0) s.tadr at

-- the place that the next step reads: a transferred tag word, else a word or quadword of the payload, else a tag
abbrev pub pending_place : Option ℕ → Payload → State → ℕ
pending_place None p s = payload_place p s
pending_place (Some a) p s = a

-- "the address (of the tag, the VIF word or the GIF quadword)"
unfoldable pub next_place : State → ℕ
next_place s = pending_place s.tags s.payload s

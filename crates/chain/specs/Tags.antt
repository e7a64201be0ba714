-- Chain tags: document 01's "Bits 0-15 QWC, 28-30 ID, 32-62 ADDR, 63 SPR. IDs that use ADDR: 0, 2, 3, 4, 5." and its table.
use Rattle.std.specs.Prelude.{ℕ, ◌+◌, ◌*◌, ◌%◌, Bool, true, false, not, ◌&&◌, ◌||◌, List, length, eqb, ltb, leb, None, Option, Some}
use Rattle.fields.specs.declared.Counts.{Counts}
use Rattle.fields.specs.Counts.{none, one_tag}
use Rattle.fields.specs.Fields.{if, bits}
use Rattle.fields.specs.Refusals.{tadr_outside, addr_unaligned, scratchpad_set, stack_full, payload_outside}
use Rattle.chain_state.specs.declared.Stack.{Stack}
use Rattle.chain_state.specs.declared.Stack.TheVariants.{Empty, One, Two}
use Rattle.chain_state.specs.declared.Payload.{Payload}
use Rattle.chain_state.specs.declared.Payload.TheVariants.{Nothing as NoPayload, Words}
use Rattle.chain.specs.StepAnswer.{Completed, Refused, StateStepped}
use Rattle.chain_state.specs.declared.State.{State}
use Rattle.fields.specs.Memory.{long_at}
use Rattle.chain_state.specs.Setters.{with_tag}

abbrev pub qwc_of : ℕ → ℕ
qwc_of tag = bits tag 0 15

abbrev pub id_of : ℕ → ℕ
id_of tag = bits tag 28 30

abbrev pub addr_of : ℕ → ℕ
addr_of tag = bits tag 32 62

abbrev pub spr_of : ℕ → Bool
spr_of tag = eqb (bits tag 63 63) 1

-- "IDs that use ADDR: 0, 2, 3, 4, 5."
unfoldable pub uses_addr : ℕ → Bool
uses_addr id = eqb id 0 || (leb 2 id && leb id 5)

-- "payload at": ADDR for refe, ref and refs, else TADR+16
unfoldable pub payload_at : ℕ → ℕ → ℕ → ℕ
payload_at id addr tadr = if (eqb id 0 || (eqb id 3 || eqb id 4)) addr (tadr + 16)

-- the address after the payload of a tag whose payload follows it
abbrev pub after_payload : ℕ → ℕ → ℕ
after_payload tadr qwc = tadr + 16 + 16 * qwc

-- "popped; if stack empty, unchanged"
abbrev pub return_to : Stack → ℕ → ℕ
return_to Empty tadr = tadr
return_to (One a) tadr = a
return_to (Two a b) tadr = b

-- "next TADR", by ID
unfoldable pub next_tadr : ℕ → ℕ → ℕ → ℕ → Stack → ℕ
next_tadr id addr tadr qwc k =
    if (eqb id 1) (after_payload tadr qwc)
    (if (eqb id 2 || eqb id 5) addr
    (if (eqb id 6) (return_to k tadr)
    (if (eqb id 7) tadr
    (tadr + 16))))

abbrev pub is_empty : Stack → Bool
is_empty Empty = true
is_empty (One a) = false
is_empty (Two a b) = false

abbrev pub is_full : Stack → Bool
is_full Empty = false
is_full (One a) = false
is_full (Two a b) = true

-- "ends": refe, end, and ret on an empty stack
unfoldable pub ends_chain : ℕ → Stack → Bool
ends_chain id k = eqb id 0 || (eqb id 7 || (eqb id 6 && is_empty k))

abbrev pub pushed : Stack → ℕ → Stack
pushed Empty a = One a
pushed (One b) a = Two b a
pushed (Two b c) a = Two b c

abbrev pub popped : Stack → Stack
popped Empty = Empty
popped (One a) = Empty
popped (Two a b) = One a

-- call: "address after payload is pushed"; ret: "popped; if stack empty, unchanged, ends"
unfoldable pub next_stack : ℕ → ℕ → ℕ → Stack → Stack
next_stack id tadr qwc k = if (eqb id 5) (pushed k (after_payload tadr qwc)) (if (eqb id 6) (popped k) k)

-- "With TTE on, words 2 and 3 of the tag go to VIF1 before the payload."
unfoldable pub tag_words_of : Bool → ℕ → Option ℕ
tag_words_of tte tadr = if tte (Some (tadr + 8)) None

unfoldable pub payload_of : ℕ → ℕ → Payload
payload_of at qwc = if (eqb qwc 0) NoPayload (Words at (4 * qwc))

-- "Tag step, in order: 10 TADR outside memory; 11 used ADDR not a multiple of 16; 12 SPR set with a used ADDR; 13 call with two on the stack; 14 payload
-- outside memory, only if QWC > 0"; 0 where the tag is accepted
unfoldable pub tag_refusal : ℕ → ℕ → ℕ → ℕ → Bool → ℕ → Stack → ℕ
tag_refusal size tadr id addr spr qwc k =
    if (ltb size (tadr + 16)) tadr_outside
    (if (uses_addr id && not (eqb (addr % 16) 0)) addr_unaligned
    (if (uses_addr id && spr) scratchpad_set
    (if (eqb id 5 && is_full k) stack_full
    (if (not (eqb qwc 0) && ltb size (payload_at id addr tadr + 16 * qwc)) payload_outside
    0))))

-- the state after an accepted tag: everything takes effect in the tag's own step
unfoldable pub tag_state : ℕ → ℕ → ℕ → State → State
tag_state id addr qwc s =
    with_tag s (next_tadr id addr s.tadr qwc s.stack) (ends_chain id s.stack) (next_stack id s.tadr qwc s.stack)
    (tag_words_of s.tte s.tadr)
    (payload_of (payload_at id addr s.tadr) qwc)

abbrev pub completed_result : Bool → Counts → State → StateStepped
completed_result i c s = record { answer = Completed i; counts = c; state = s }

abbrev pub refused_result : ℕ → State → StateStepped
refused_result n s = record { answer = Refused n; counts = none; state = s }

-- by the refusal; request 14's "QWC by tag ID": it counts whole in the tag's own step, and a refused tag counts for nothing
abbrev pub tag_answer : ℕ → ℕ → State → StateStepped
tag_answer n tag s =
    if (eqb n 0) (completed_result false (one_tag (id_of tag) (qwc_of tag)) (tag_state (id_of tag) (addr_of tag) (qwc_of tag) s)) (refused_result n s)

unfoldable pub tag_read : ℕ → ℕ → State → StateStepped
tag_read size tag s =
    tag_answer (tag_refusal size s.tadr (id_of tag) (addr_of tag) (spr_of tag) (qwc_of tag) s.stack) tag s

-- a tag read; where TADR lies outside, the tag's bits play no part
abbrev pub tag_step : List ℕ → State → StateStepped
tag_step main s = tag_read (length main) (long_at main s.tadr) s

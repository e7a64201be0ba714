-- Request 6, of a tag: "the shown number is the one found there and does break the rule".
use Rattle.std.specs.Prelude.{ℕ, ◌+◌, ◌%◌, ◌<◌, true, List, ◌≡◌, length}
use Rattle.fields.specs.Fields.{bits}
use Rattle.fields.specs.Memory.{long_at}
use Rattle.fields.specs.Refusals.{tadr_outside, addr_unaligned, scratchpad_set, stack_full, payload_outside}
use Rattle.chain_state.specs.declared.State.{State}
use Rattle.chain.specs.Tags.{qwc_of, id_of, addr_of, uses_addr, payload_at}
use Rattle.gif_reason.specs.declared.Numbers.{Numbers}
use Rattle.gif_reason.specs.Reason.{numbers}
use Rattle.chain_reason.specs.Reason.{stack_depth, most_fits}

-- the tag at TADR
abbrev pub tag_at : List ℕ → State → ℕ
tag_at main s = long_at main s.tadr

-- the most quadwords that fit from the start of its payload on
abbrev pub fits_at : List ℕ → State → ℕ
fits_at main s = most_fits (length main) (payload_at (id_of (tag_at main s)) (addr_of (tag_at main s)) s.tadr)

-- the refusal of the tag at TADR, what it shows, and the rule that this breaks
pub data TagFault (main : List ℕ) (s : State) : ℕ → Numbers → Type 0 where
  -- "10 TADR outside memory"
  tadr_outside_lem : length main < s.tadr + 16 → TagFault main s tadr_outside (numbers s.tadr 0)
  -- "11 used ADDR not a multiple of 16"
  addr_unaligned_lem : uses_addr (id_of (tag_at main s)) ≡ true → (addr_of (tag_at main s) % 16 ≡ 0 → ⊥)
      → TagFault main s addr_unaligned (numbers (addr_of (tag_at main s)) 0)
  -- "12 SPR set with a used ADDR"
  scratchpad_set_lem : uses_addr (id_of (tag_at main s)) ≡ true → bits (tag_at main s) 63 63 ≡ 1
      → TagFault main s scratchpad_set (numbers (bits (tag_at main s) 63 63) 0)
  -- "13 call with two on the stack"
  stack_full_lem : id_of (tag_at main s) ≡ 5 → stack_depth s.stack ≡ 2 → TagFault main s stack_full (numbers (stack_depth s.stack) 0)
  -- "14 payload outside memory, only if QWC > 0"
  payload_outside_lem : fits_at main s < qwc_of (tag_at main s) → TagFault main s payload_outside (numbers (qwc_of (tag_at main s)) (fits_at main s))

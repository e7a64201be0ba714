-- The state block: a saved state as 95 words, the chain's own and then the blocks of VIF1, of paths 2 and 3, and of VIF0.
use Rattle.std.specs.Prelude.{ℕ, ◌/◌, ◌%◌, ◌^◌, Bool, true, false, ◌&&◌, List, [], ◌∷◌, ◌++◌, length, get_or, eqb, leb, None, Option, Some}
use Rattle.fields.specs.Fields.{if}
use Rattle.gif.specs.declared.Path.{Path}
use Rattle.vif_codes.specs.declared.Vif.{Vif}
use Rattle.chain_state.specs.declared.Stack.{Stack}
use Rattle.chain_state.specs.declared.Stack.TheVariants.{Empty, One, Two}
use Rattle.chain_state.specs.declared.Payload.{Payload}
use Rattle.chain_state.specs.declared.Payload.TheVariants.{Nothing as NoPayload, Words}
use Rattle.chain_state.specs.declared.State.{State}
use Rattle.chain_state.specs.Start.{reset_path, reset_unit}
use Rattle.state_block.specs.Read.{ReadPath}
use Rattle.state_block.specs.Read.{ReadUnit}
use Rattle.state_block.specs.Read.{ReadState}
use Rattle.state_block.specs.Sizes.{path_size, unit_size, vif1_at, path2_at, path3_at, vif0_at, state_size, part}
use Rattle.state_block.specs.Words.{bit_of, is_bit, bit_at, long_of}
use Rattle.state_block.specs.PathBlock.{path_block, path_in_block}
use Rattle.state_block.specs.UnitBlock.{unit_block, unit_in_block}

-- ---- written

-- words 4 to 6: how many entries, and the stack, first pushed first
abbrev pub stack_words : Stack → List ℕ
stack_words Empty = 0 ∷ 0 ∷ 0 ∷ []
stack_words (One a) = 1 ∷ a ∷ 0 ∷ []
stack_words (Two a b) = 2 ∷ a ∷ b ∷ []

-- words 7 and 8
abbrev pub tags_block : Option ℕ → List ℕ
tags_block None = 0 ∷ 0 ∷ []
tags_block (Some at) = 1 ∷ at ∷ []

-- words 9 and 10: how many words, and the address of the next, 0 where none is pending
abbrev pub payload_block : Payload → List ℕ
payload_block NoPayload = 0 ∷ 0 ∷ []
payload_block (Words at count) = count ∷ if (eqb count 0) 0 at ∷ []

-- words 0 to 12
unfoldable pub chain_words : State → List ℕ
chain_words s =
    s.channel
    ∷ s.tadr
    ∷ bit_of s.tte
    ∷ bit_of s.ended
    ∷ get_or (stack_words s.stack) 0 0
    ∷ get_or (stack_words s.stack) 1 0
    ∷ get_or (stack_words s.stack) 2 0
    ∷ get_or (tags_block s.tags) 0 0
    ∷ get_or (tags_block s.tags) 1 0
    ∷ get_or (payload_block s.payload) 0 0
    ∷ get_or (payload_block s.payload) 1 0
    ∷ s.used % 2 ^ 32
    ∷ s.used / 2 ^ 32
    ∷ []

-- the words of a state
unfoldable pub state_block : State → List ℕ
state_block s = chain_words s ++ unit_block s.vif1 ++ path_block s.path2 ++ path_block s.path3 ++ unit_block s.vif0

-- ---- read

-- "TTE, "ended" or word 7 above 1, a depth above 2" exists in no state
unfoldable pub chain_exists : List ℕ → Bool
chain_exists b = is_bit b 2 && (is_bit b 3 && (leb (get_or b 4 0) 2 && is_bit b 7))

-- the stack by words 4 to 6; what lies above its depth is ignored
unfoldable pub stack_in_block : List ℕ → Stack
stack_in_block b = if (eqb (get_or b 4 0) 0) Empty (if (eqb (get_or b 4 0) 1) (One (get_or b 5 0)) (Two (get_or b 5 0) (get_or b 6 0)))

-- the pending tag words by words 7 and 8; word 8 is ignored where word 7 is 0
unfoldable pub tags_in_block : List ℕ → Option ℕ
tags_in_block b = if (eqb (get_or b 7 0) 0) None (Some (get_or b 8 0))

-- the pending payload by words 9 and 10; word 10 is ignored where word 9 is 0
unfoldable pub payload_in_block : List ℕ → Payload
payload_in_block b = if (eqb (get_or b 9 0) 0) NoPayload (Words (get_or b 10 0) (get_or b 9 0))

abbrev pub used_in_block : List ℕ → ℕ
used_in_block b = long_of (get_or b 11 0) (get_or b 12 0)

-- the state of a block and of its units and paths
unfoldable pub held_state : List ℕ → Vif → Path → Path → Vif → State
held_state b u p q v =
    record {
      channel = get_or b 0 0;
      tadr = get_or b 1 0;
      tte = bit_at b 2;
      ended = bit_at b 3;
      stack = stack_in_block b;
      tags = tags_in_block b;
      payload = payload_in_block b;
      used = used_in_block b;
      vif0 = v;
      vif1 = u;
      path2 = p;
      path3 = q;
    }

-- stands for the state of words that are no state's: the reset state with TADR 1, so out of range, with the channel and the entries used that the words say
-- (refusals 2, 3 and 4 are tested before 5, 2 and 3 by the channel)
unfoldable pub no_state : ℕ → ℕ → State
no_state channel used =
    record {
      channel = channel;
      tadr = 1;
      tte = false;
      ended = false;
      stack = Empty;
      tags = None;
      payload = NoPayload;
      used = used;
      vif0 = reset_unit;
      vif1 = reset_unit;
      path2 = reset_path;
      path3 = reset_path;
    }

abbrev pub read_state : Bool → State → ReadState
read_state known state = record { known = known; state = state }

-- the state of a block whose parts were read
unfoldable pub state_with : ReadUnit → ReadPath → ReadPath → ReadUnit → List ℕ → ReadState
state_with u p q v b =
    if (chain_exists b && ((u.known && v.known) && (p.known && q.known))) (read_state true (held_state b u.unit p.path q.path v.unit))
    (read_state false (no_state (get_or b 0 0) (used_in_block b)))

-- the state of a block, if it is a state's
unfoldable pub state_in_block : List ℕ → ReadState
state_in_block b =
    if (eqb (length b) state_size)
    (state_with (unit_in_block (part vif1_at unit_size b)) (path_in_block (part path2_at path_size b)) (path_in_block (part path3_at path_size b))
    (unit_in_block (part vif0_at unit_size b)) b)
    (read_state false (no_state 1 0))

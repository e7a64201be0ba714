-- Every refusal is reached: a point each, worked out from documents 01 and 02 by hand.
use Rattle.std.specs.Prelude.{ℕ, Bool, true, false, List, [], ◌∷◌, ◌++◌, ◌≡◌, replicate, Some, None, Option}
use Rattle.gif.specs.declared.TagFormat.{TagFormat}
use Rattle.gif.specs.declared.TagFormat.TheVariants.{Packed, Reglist, Image}
use Rattle.gif.specs.declared.Path.{Path}
use Rattle.memories.specs.declared.VifUnit.{VifUnit}
use Rattle.memories.specs.declared.VifUnit.TheVariants.{Vif0, Vif1}
use Rattle.memories.specs.Units.{data_words, code_bytes}
use Rattle.memories.specs.Lengths.{Lent, lent}
use Rattle.vif_codes.specs.declared.Waiting.{Waiting}
use Rattle.vif_codes.specs.declared.Waiting.TheVariants.{MpgDue, DirectDue}
use Rattle.vif_codes.specs.declared.Vif.{Vif}
use Rattle.vif_codes.specs.Setters.{with_cycle, with_waiting}
use Rattle.vif_codes.specs.Payload.{bytes_of}
use Rattle.chain_state.specs.declared.Stack.{Stack}
use Rattle.chain_state.specs.declared.Stack.TheVariants.{Empty, Two}
use Rattle.chain_state.specs.declared.Payload.{Payload}
use Rattle.chain_state.specs.declared.Payload.TheVariants.{Nothing as NoPayload, Words}
use Rattle.chain_state.specs.declared.State.{State}
use Rattle.chain_state.specs.Start.{reset_path, reset_unit}
use Rattle.diagnosis.specs.Why.{why_of, reason_kind, reason_numbers}

-- ---- inputs

-- main memory by its words
unfoldable pub memory : List ℕ → List ℕ
memory [] = []
memory (w ∷ ws) = bytes_of w ++ memory ws

-- memories of a unit's sizes, all zeros, and a log of so many numbers
abbrev pub blank : VifUnit → ℕ → Lent
blank which n = lent (replicate (data_words which) 0) (replicate (code_bytes which) 0) (replicate n 0)

-- a state on a channel with TADR, the stack and what is pending; its units and paths are given
abbrev pub state_with : ℕ → ℕ → Bool → Stack → Option ℕ → Payload → Vif → Vif → Path → Path → State
state_with channel tadr ended k t p v0 v1 p2 p3 =
    record {
      channel = channel;
      tadr = tadr;
      tte = true;
      ended = ended;
      stack = k;
      tags = t;
      payload = p;
      used = 0;
      vif0 = v0;
      vif1 = v1;
      path2 = p2;
      path3 = p3;
    }

-- the next step reads a tag
abbrev pub at_tag : ℕ → Stack → State
at_tag tadr k = state_with 1 tadr false k None NoPayload reset_unit reset_unit reset_path reset_path

-- the next step gives VIF1 the payload word at an address, of which n follow with it
abbrev pub at_word : ℕ → ℕ → Vif → Path → State
at_word at n v p = state_with 1 0 false Empty None (Words at n) reset_unit v p reset_path

-- a path that waits for one quadword of a tag
abbrev pub path_with : TagFormat → ℕ → Path
path_with f d = record { q = 0; place = Some (record { nloop = 1; eop = false; format = f; nreg = 1; descriptors = d; due = 1 }) }

abbrev pub waiting_for : Waiting → Vif
waiting_for w = with_waiting reset_unit w

-- the next step gives path 3 the quadword at address 0
abbrev pub at_quadword : Path → State
at_quadword p =
    record {
      channel = 2;
      tadr = 0;
      tte = false;
      ended = false;
      stack = Empty;
      tags = None;
      payload = Words 0 4;
      used = 0;
      vif0 = reset_unit;
      vif1 = reset_unit;
      path2 = reset_path;
      path3 = p;
    }

-- the next step gives VIF0, with CL and WL 1, the tag word at address 12
abbrev pub at_tag_word : State
at_tag_word = state_with 0 0 false Empty (Some 12) NoPayload (with_cycle reset_unit 1 1) reset_unit reset_path reset_path

-- ---- the table

-- what is told, and what should be
pub record Point : Type 0 where
  pub told : List ℕ
  pub stated : List ℕ

abbrev pub AllHold : List Point → Type 0
AllHold [] = Unit {0}
AllHold (p ∷ ps) = (p.told ≡ p.stated) × AllHold ps

abbrev pub point : List ℕ → State → Lent → List ℕ → Point
point main s m stated = record { told = reason_kind (why_of main s m) ∷ reason_numbers (why_of main s m); stated = stated }

-- one quadword, by its first word
abbrev pub quad : ℕ → List ℕ
quad w = memory (w ∷ 0 ∷ 0 ∷ 0 ∷ [])

unfoldable pub points : List Point
points =
    -- "An entry refusal is named first, marked as one, without other numbers."
    point [] (at_tag 0 Empty) (blank Vif1 3) (2 ∷ 1 ∷ 0 ∷ 0 ∷ 0 ∷ [])
    ∷ point (quad 0) (at_tag 0 Empty) (lent [] [] []) (2 ∷ 2 ∷ 0 ∷ 0 ∷ 0 ∷ [])
    ∷ point (quad 0) (at_tag 0 Empty) (lent (replicate (data_words Vif1) 0) [] []) (2 ∷ 3 ∷ 0 ∷ 0 ∷ 0 ∷ [])
    ∷ point (quad 0) (at_tag 0 Empty) (blank Vif1 1) (2 ∷ 4 ∷ 0 ∷ 0 ∷ 0 ∷ [])
    ∷ point (quad 0) (at_tag 8 Empty) (blank Vif1 3) (2 ∷ 5 ∷ 0 ∷ 0 ∷ 0 ∷ [])
    -- a 14 at the entry, and a 14 of a tag: cnt with QWC 1 in a memory that ends after it
    ∷ point (quad 0) (at_word 0 8 reset_unit reset_path) (blank Vif1 3) (2 ∷ 14 ∷ 0 ∷ 0 ∷ 0 ∷ [])
    ∷ point (quad 0x1000_0001) (at_tag 0 Empty) (blank Vif1 3) (3 ∷ 14 ∷ 0 ∷ 1 ∷ 0 ∷ [])
    -- the chain has ended; an end tag has no complaint
    ∷ point (quad 0) (state_with 1 0 true Empty None NoPayload reset_unit reset_unit reset_path reset_path) (blank Vif1 3) (1 ∷ 0 ∷ 0 ∷ 0 ∷ 0 ∷ [])
    ∷ point (quad 0x7000_0000) (at_tag 0 Empty) (blank Vif1 3) (0 ∷ 0 ∷ 0 ∷ 0 ∷ 0 ∷ [])
    -- TADR 16 in a memory of 16 bytes
    ∷ point (quad 0) (at_tag 16 Empty) (blank Vif1 3) (3 ∷ 10 ∷ 16 ∷ 16 ∷ 0 ∷ [])
    -- ref with ADDR 8, and with SPR
    ∷ point (memory (0x3000_0000 ∷ 8 ∷ 0 ∷ 0 ∷ [])) (at_tag 0 Empty) (blank Vif1 3) (3 ∷ 11 ∷ 0 ∷ 8 ∷ 0 ∷ [])
    ∷ point (memory (0x3000_0000 ∷ 0x8000_0000 ∷ 0 ∷ 0 ∷ [])) (at_tag 0 Empty) (blank Vif1 3) (3 ∷ 12 ∷ 0 ∷ 1 ∷ 0 ∷ [])
    -- a third call
    ∷ point (quad 0x5000_0000) (at_tag 0 (Two 0 0)) (blank Vif1 3) (3 ∷ 13 ∷ 0 ∷ 2 ∷ 0 ∷ [])
    -- CMD 08; vl 3 with vn 0; UNPACK with WL 0; STMOD 3
    ∷ point (quad 0x0800_0000) (at_word 0 4 reset_unit reset_path) (blank Vif1 3) (3 ∷ 20 ∷ 0 ∷ 8 ∷ 0 ∷ [])
    ∷ point (quad 0x6300_0000) (at_word 0 4 reset_unit reset_path) (blank Vif1 3) (3 ∷ 21 ∷ 0 ∷ 0 ∷ 0 ∷ [])
    ∷ point (quad 0x6C00_0000) (at_word 0 4 reset_unit reset_path) (blank Vif1 3) (3 ∷ 22 ∷ 0 ∷ 0 ∷ 0 ∷ [])
    ∷ point (quad 0x0500_0003) (at_word 0 4 reset_unit reset_path) (blank Vif1 3) (3 ∷ 23 ∷ 0 ∷ 3 ∷ 0 ∷ [])
    -- DIRECT's and MPG's first payload word at word 1
    ∷ point (quad 0) (at_word 4 3 (waiting_for (DirectDue 1 false)) reset_path) (blank Vif1 3) (3 ∷ 24 ∷ 4 ∷ 1 ∷ 0 ∷ [])
    ∷ point (quad 0) (at_word 4 3 (waiting_for (MpgDue 0 1 2 false)) reset_path) (blank Vif1 3) (3 ∷ 25 ∷ 4 ∷ 1 ∷ 0 ∷ [])
    -- on VIF0: UNPACK with IMM bit 15, and DIRECT, which it has not; both in tag word 3
    ∷ point (memory (0 ∷ 0 ∷ 0 ∷ 0x6C00_8000 ∷ [])) at_tag_word (blank Vif0 3) (3 ∷ 26 ∷ 12 ∷ 1 ∷ 0 ∷ [])
    ∷ point (memory (0 ∷ 0 ∷ 0 ∷ 0x5000_0001 ∷ [])) at_tag_word (blank Vif0 3) (3 ∷ 20 ∷ 12 ∷ 0x50 ∷ 0 ∷ [])
    -- descriptor B at PACKED data on channel 2, and at REGLIST data in DIRECT
    ∷ point (quad 0) (at_quadword (path_with Packed 11)) (blank Vif1 3) (3 ∷ 30 ∷ 0 ∷ 11 ∷ 0 ∷ [])
    ∷ point (quad 0) (at_word 0 4 (waiting_for (DirectDue 1 false)) (path_with Reglist 11)) (blank Vif1 3) (3 ∷ 30 ∷ 0 ∷ 11 ∷ 0 ∷ [])
    -- IMAGE with one entry free, and MSCAL with none
    ∷ point (quad 0) (at_quadword (path_with Image 0)) (blank Vif1 3) (3 ∷ 31 ∷ 0 ∷ 1 ∷ 2 ∷ [])
    ∷ point (quad 0x1400_0000) (at_word 0 4 reset_unit reset_path) (blank Vif1 0) (3 ∷ 31 ∷ 0 ∷ 0 ∷ 1 ∷ [])
    ∷ []

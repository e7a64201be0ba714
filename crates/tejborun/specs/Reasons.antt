-- Request 6: why a run stopped.
use Rattle.std.specs.Prelude.{ℕ, ◌||◌, List, length, ltb}
use Rattle.fields.specs.Fields.{if}
use Rattle.memories.specs.Lengths.{Lent}
use Rattle.state_block.specs.Read.{ReadState}
use Rattle.state_block.specs.StateBlock.{state_in_block}
use Rattle.diagnosis.specs.Reason.{Reason}
use Rattle.diagnosis.specs.Why.{why_of, reason_kind, reason_numbers}
use Rattle.tejborun.specs.Buffers.{short, wrong_block, written, Answered, answered}

abbrev pub why_left : Reason → List ℕ → Answered
why_left x result = answered (reason_kind x) (written (reason_numbers x) result)

-- on what was read from the block
abbrev pub why_on : ReadState → List ℕ → Lent → List ℕ → Answered
why_on read main m result = why_left (why_of main read.state m) result

unfoldable pub why_call : List ℕ → Lent → List ℕ → List ℕ → Answered
why_call main m block result =
    if (wrong_block block || ltb (length result) 4) (answered short result) (why_on (state_in_block block) main m result)

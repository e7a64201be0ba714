-- Request 6: "We want a tool that takes the memories, log and state and tells the reason in numbers: the refusal, the address ... and the contents of the field
-- at fault".
use Rattle.std.specs.Prelude.{ℕ, not, List, [], ◌∷◌, eqb, None, Option, Some}
use Rattle.fields.specs.Fields.{if}
use Rattle.fields.specs.Memory.{quadword_at}
use Rattle.memories.specs.Lengths.{Lent}
use Rattle.vif_codes.specs.Words.{incoming_at}
use Rattle.chain_state.specs.declared.Payload.{Payload}
use Rattle.chain_state.specs.declared.Payload.TheVariants.{Nothing as NoPayload, Words}
use Rattle.chain.specs.StepAnswer.{StepAnswer, Completed, Refused}
use Rattle.chain_state.specs.declared.State.{State}
use Rattle.chain_state.specs.Range.{entry_refusal}
use Rattle.chain.specs.Step.{fed_unit, step_of}
use Rattle.chain_state.specs.Setters.{held_by}
use Rattle.chain.specs.Run.{done}
use Rattle.gif_reason.specs.declared.Numbers.{Numbers}
use Rattle.gif_reason.specs.Reason.{quadword_numbers, quadword_needs}
use Rattle.vif_reason.specs.Reason.{word_numbers, word_needs}
use Rattle.chain_reason.specs.Reason.{tag_numbers, next_place}
use Rattle.diagnosis.specs.Reason.{Reason, Entry, Ended, NoComplaint, Step}

-- ---- what the refusal r of the next step shows, by the number of entries that the step needs

-- of the word at an address, which the channel's unit is given
abbrev pub unit_numbers : ℕ → ℕ → List ℕ → ℕ → State → List ℕ → Numbers
unit_numbers r needed main a s log = word_numbers r (held_by (fed_unit s) s) s.path2 (incoming_at main a) needed s.used log

-- of pending payload, which channel 2 gives to path 3
unfoldable pub payload_numbers : ℕ → ℕ → List ℕ → ℕ → State → List ℕ → Numbers
payload_numbers r needed main at s log =
    if (eqb s.channel 2) (quadword_numbers r s.path3 needed s.used log) (unit_numbers r needed main at s log)

-- of pending payload, or of a tag where none is pending
abbrev pub payload_or_tag_numbers : Payload → ℕ → ℕ → List ℕ → State → List ℕ → Numbers
payload_or_tag_numbers NoPayload r needed main s log = tag_numbers r main s
payload_or_tag_numbers (Words at n) r needed main s log = if (eqb n 0) (tag_numbers r main s) (payload_numbers r needed main at s log)

-- transferred tag words come first
abbrev pub pending_numbers : Option ℕ → Payload → ℕ → ℕ → List ℕ → State → List ℕ → Numbers
pending_numbers None p r needed main s log = payload_or_tag_numbers p r needed main s log
pending_numbers (Some a) p r needed main s log = unit_numbers r needed main a s log

unfoldable pub next_numbers : ℕ → ℕ → List ℕ → State → List ℕ → Numbers
next_numbers r needed main s log = pending_numbers s.tags s.payload r needed main s log

-- ---- the entries that the next step needs, where it needs any; a tag needs none

abbrev pub unit_needs : List ℕ → ℕ → State → ℕ
unit_needs main a s = word_needs (held_by (fed_unit s) s) s.path2 (incoming_at main a)

unfoldable pub payload_needs : List ℕ → ℕ → State → ℕ
payload_needs main at s = if (eqb s.channel 2) (quadword_needs s.path3 (quadword_at main at)) (unit_needs main at s)

abbrev pub payload_or_tag_needs : Payload → List ℕ → State → ℕ
payload_or_tag_needs NoPayload main s = 0
payload_or_tag_needs (Words at n) main s = if (eqb n 0) 0 (payload_needs main at s)

abbrev pub pending_needs : Option ℕ → Payload → List ℕ → State → ℕ
pending_needs None p main s = payload_or_tag_needs p main s
pending_needs (Some a) p main s = unit_needs main a s

unfoldable pub next_needs : List ℕ → State → ℕ
next_needs main s = pending_needs s.tags s.payload main s

-- ---- the reason

-- the refusal, the address and what is shown
abbrev pub step_reason : ℕ → ℕ → Numbers → Reason
step_reason r a x = Step r a x.first x.second

-- by the next step's answer: "it names refusal r exactly if the next step gives r"; "Where no step is refused, it says ... that it has no complaint"
abbrev pub on_answer : StepAnswer → List ℕ → State → List ℕ → Reason
on_answer (Completed i) main s log = NoComplaint
on_answer (Refused r) main s log = step_reason r (next_place s) (next_numbers r (next_needs main s) main s log)

-- "An entry refusal is named first, marked as one, without other numbers."; "Where no step is refused, it says that the chain has ended, if so with nothing
-- pending, else that it has no complaint."
unfoldable pub why_of : List ℕ → State → Lent → Reason
why_of main s m =
    if (not (eqb (entry_refusal main m s) 0)) (Entry (entry_refusal main m s))
    (if (done s) Ended
    (on_answer (step_of main s m).answer main s m.log))

-- "in numbers": 0 no complaint, 1 the chain has ended, 2 an entry refusal, 3 the refusal of a step
abbrev pub reason_kind : Reason → ℕ
reason_kind NoComplaint = 0
reason_kind Ended = 1
reason_kind (Entry n) = 2
reason_kind (Step r a x y) = 3

-- the refusal, the address and the two numbers shown
abbrev pub reason_numbers : Reason → List ℕ
reason_numbers NoComplaint = 0 ∷ 0 ∷ 0 ∷ 0 ∷ []
reason_numbers Ended = 0 ∷ 0 ∷ 0 ∷ 0 ∷ []
reason_numbers (Entry n) = n ∷ 0 ∷ 0 ∷ 0 ∷ []
reason_numbers (Step r a x y) = r ∷ a ∷ x ∷ y ∷ []

-- What the completed steps of a run took, in order. Told by what each step read, beside the definition of the run and apart from its counts: request 14's "The
-- left side comes from the tags in the history, not from our sums."
use Rattle.std.specs.Prelude.{ℕ, zero, suc, ◌+◌, true, false, List, [], ◌∷◌, eqb, None, Option, Some}
use Rattle.fields.specs.declared.Qwc.{Qwc}
use Rattle.fields.specs.Counts.{qwcs}
use Rattle.fields.specs.Fields.{if}
use Rattle.fields.specs.Memory.{long_at}
use Rattle.memories.specs.Lengths.{Lent}
use Rattle.vif.specs.Step.{words_taken}
use Rattle.chain_state.specs.declared.Payload.{Payload}
use Rattle.chain_state.specs.declared.Payload.TheVariants.{Nothing as NoPayload, Words}
use Rattle.chain.specs.StepAnswer.{StepAnswer, Completed, Refused}
use Rattle.chain_state.specs.declared.State.{State}
use Rattle.chain.specs.Tags.{qwc_of, id_of}
use Rattle.chain_state.specs.Range.{entry_refusal}
use Rattle.chain.specs.Step.{Stepped, fed_unit, vif_took, step_of}
use Rattle.chain.specs.Run.{done}

-- what a completed step took
pub data Event : Type 0 where
  -- a tag, by its 64 bits
  tag : ℕ → Event
  -- so many words of payload
  payload : ℕ → Event
  -- a transferred tag word
  tag_word : Event

-- ---- a step's event

abbrev pub tag_at : List ℕ → State → Event
tag_at main s = tag (long_at main s.tadr)

-- "the payload words taken ..., a GIF quadword counting four": channel 2 gives one to path 3, and on the other channels the unit says what it took
unfoldable pub payload_at : List ℕ → ℕ → State → Lent → Event
payload_at main at s m = payload (if (eqb s.channel 2) 4 (words_taken (vif_took (fed_unit s) main at s m).answer))

-- "A tag is read only when nothing is pending."
abbrev pub payload_or_tag_at : Payload → List ℕ → State → Lent → Event
payload_or_tag_at NoPayload main s m = tag_at main s
payload_or_tag_at (Words at n) main s m = if (eqb n 0) (tag_at main s) (payload_at main at s m)

abbrev pub pending_or_tag_at : Option ℕ → Payload → List ℕ → State → Lent → Event
pending_or_tag_at None p main s m = payload_or_tag_at p main s m
pending_or_tag_at (Some a) p main s m = tag_word

-- what the step from here takes if it is completed
unfoldable pub event_of : List ℕ → State → Lent → Event
event_of main s m = pending_or_tag_at s.tags s.payload main s m

-- ---- a run's events

-- by a step's answer; f runs on. A refused step took nothing
abbrev pub traced_by : (State → Lent → List Event) → StepAnswer → Event → Stepped → List Event
traced_by f (Completed true) e x = e ∷ []
traced_by f (Completed false) e x = e ∷ f x.after.state x.after.memories
traced_by f (Refused n) e x = []

abbrev pub traced : (State → Lent → List Event) → Event → Stepped → List Event
traced f e x = traced_by f x.answer e x

-- of the steps of a run, by its allowance
unfoldable pub steps_trace : List ℕ → ℕ → State → Lent → List Event
steps_trace main zero s m = []
steps_trace main (suc n) s m = if (done s) [] (traced (steps_trace main n) (event_of main s m) (step_of main s m))

-- of a run: one that is refused at its entry takes no step
unfoldable pub trace_of : List ℕ → ℕ → State → Lent → List Event
trace_of main allowance s m = if (eqb (entry_refusal main m s) 0) (steps_trace main allowance s m) []

-- ---- sums over events, of unbounded numbers

unfoldable pub sum_of : (Event → ℕ) → List Event → ℕ
sum_of f [] = 0
sum_of f (e ∷ es) = f e + sum_of f es

abbrev pub qwc_in : Event → ℕ
qwc_in (tag t) = qwc_of t
qwc_in (payload k) = 0
qwc_in tag_word = 0

-- "tag words not counted"
abbrev pub payload_in : Event → ℕ
payload_in (tag t) = 0
payload_in (payload k) = k
payload_in tag_word = 0

-- QWC of a tag of one ID
abbrev pub qwc_with : ℕ → Event → ℕ
qwc_with id (tag t) = if (eqb (id_of t) id) (qwc_of t) 0
qwc_with id (payload k) = 0
qwc_with id tag_word = 0

-- "the sum of QWC of the tags read"
abbrev pub qwc_read : List Event → ℕ
qwc_read es = sum_of qwc_in es

-- "the payload words taken"
abbrev pub payload_taken : List Event → ℕ
payload_taken es = sum_of payload_in es

-- "QWC by tag ID": by a number for each ID
abbrev pub by_id : (ℕ → ℕ) → Qwc
by_id f = qwcs (f 0) (f 1) (f 2) (f 3) (f 4) (f 5) (f 6) (f 7)

abbrev pub qwcs_in : Event → Qwc
qwcs_in e = by_id (λ id. qwc_with id e)

abbrev pub qwcs_read : List Event → Qwc
qwcs_read es = by_id (λ id. sum_of (qwc_with id) es)

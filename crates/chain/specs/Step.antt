-- A step: document 01's "A step is one of: a tag read; one word taken by VIF1; one quadword taken by the GIF (channel 2, or inside DIRECT)."
use Rattle.std.specs.Prelude.{ℕ, false, List, eqb, None, Option, Some}
use Rattle.fields.specs.declared.Counts.{Counts}
use Rattle.fields.specs.declared.UnitCounts.{UnitCounts}
use Rattle.fields.specs.Counts.{one_quadword, of_unit, none}
use Rattle.fields.specs.Fields.{if}
use Rattle.gif.specs.declared.GifPath.TheVariants.{Three}
use Rattle.gif.specs.GifAnswer.{GifAnswer, Taken, Refused as GifRefused}
use Rattle.gif.specs.Step.{Left as GifLeft, gif_step}
use Rattle.memories.specs.declared.VifUnit.{VifUnit}
use Rattle.memories.specs.Lengths.{Lent, lent}
use Rattle.vif_codes.specs.declared.Incoming.{Incoming}
use Rattle.vif_codes.specs.VifAnswer.{VifAnswer, Word, Quadword, Refused as VifRefused}
use Rattle.vif_codes.specs.Counting.{counts_in}
use Rattle.vif.specs.Step.{Left as VifLeft, vif_step}
use Rattle.chain_state.specs.declared.Payload.{Payload}
use Rattle.chain_state.specs.declared.Payload.TheVariants.{Nothing as NoPayload, Words}
use Rattle.chain.specs.StepAnswer.{StepAnswer, Completed, Refused, StateStepped}
use Rattle.chain_state.specs.declared.State.{State}
use Rattle.fields.specs.Memory.{quadword_at}
use Rattle.chain_state.specs.Setters.{held_by, with_pending, with_unit, with_path3}
use Rattle.chain_state.specs.Range.{unit_of}
use Rattle.chain.specs.Tags.{tag_step}
use Rattle.vif_codes.specs.Words.{incoming_at}
use Rattle.chain_state.specs.Pending.{tags_after, payload_after}

-- the state and the memories
pub record Machine : Type 0 where
  pub state : State
  pub memories : Lent

abbrev pub machine : State → Lent → Machine
machine s m = record { state = s; memories = m }

-- what a step leaves: its answer, what it counts for, and the machine
pub record Stepped : Type 0 where
  pub answer : StepAnswer
  pub counts : Counts
  pub after : Machine

abbrev pub stepped : StepAnswer → Counts → State → Lent → Stepped
stepped a c s m = record { answer = a; counts = c; after = machine s m }

abbrev pub stepped_by : StateStepped → Lent → Stepped
stepped_by r m = stepped r.answer r.counts r.state m

-- "A refused step isn't counted."
abbrev pub refused_step : ℕ → State → Lent → Stepped
refused_step n s m = stepped (Refused n) none s m

-- the unit that the chain's words go to, by the channel
abbrev pub fed_unit : State → VifUnit
fed_unit s = unit_of s.channel

-- a word or quadword that a unit was given, by what it made of it and what that counts for; t and p are what is then pending, p by the number of words taken
abbrev pub after_vif : VifUnit → VifAnswer → UnitCounts → VifLeft → Option ℕ → (ℕ → Payload) → State → Lent → Stepped
after_vif which (Word i) c o t p s m = stepped (Completed i) (of_unit c) (with_pending (with_unit which s o.unit o.path2 o.used) t (p 1)) o.memories
after_vif which (Quadword i closed) c o t p s m = stepped (Completed i) (of_unit c) (with_pending (with_unit which s o.unit o.path2 o.used) t (p 4)) o.memories
after_vif which (VifRefused n) c o t p s m = refused_step n s m

abbrev pub given_vif : VifUnit → Incoming → VifLeft → Option ℕ → (ℕ → Payload) → State → Lent → Stepped
given_vif which n o t p s m = after_vif which o.answer (counts_in (held_by which s).waiting n o.answer) o t p s m

-- the step of a unit with the word at an address
abbrev pub vif_took : VifUnit → List ℕ → ℕ → State → Lent → VifLeft
vif_took which main a s m = vif_step which (held_by which s) s.path2 (incoming_at main a) s.used m

unfoldable pub vif_given : List ℕ → ℕ → Option ℕ → (ℕ → Payload) → State → Lent → Stepped
vif_given main a t p s m = given_vif (fed_unit s) (incoming_at main a) (vif_took (fed_unit s) main a s m) t p s m

-- a quadword that path 3 was given
abbrev pub after_gif : GifAnswer → GifLeft → Payload → State → Lent → Stepped
after_gif (Taken closed) o p s m = stepped (Completed false) (of_unit (one_quadword closed)) (with_pending (with_path3 s o.path o.used) s.tags p) (lent m.mem m.code o.log)
after_gif (GifRefused n) o p s m = refused_step n s m

abbrev pub given_gif : GifLeft → Payload → State → Lent → Stepped
given_gif o p s m = after_gif o.answer o p s m

-- channel 2 gives it to path 3, which its log entries name
unfoldable pub gif_given : List ℕ → ℕ → Payload → State → Lent → Stepped
gif_given main a p s m = given_gif (gif_step Three s.path3 (quadword_at main a) s.used m.log) p s m

-- a pending payload word, on channel 2 a quadword
unfoldable pub payload_step : List ℕ → ℕ → ℕ → State → Lent → Stepped
payload_step main at n s m =
    if (eqb s.channel 2) (gif_given main at (payload_after at n 4) s m) (vif_given main at s.tags (payload_after at n) s m)

-- "A tag is read only when nothing is pending."
abbrev pub payload_or_tag : Payload → List ℕ → State → Lent → Stepped
payload_or_tag NoPayload main s m = stepped_by (tag_step main s) m
payload_or_tag (Words at n) main s m = if (eqb n 0) (stepped_by (tag_step main s) m) (payload_step main at n s m)

-- "words 2 and 3 of the tag go to VIF1 before the payload"; request 10: "On channel 0 tag words go to VIF0."
abbrev pub pending_or_tag : Option ℕ → Payload → List ℕ → State → Lent → Stepped
pending_or_tag None p main s m = payload_or_tag p main s m
pending_or_tag (Some a) p main s m = vif_given main a (tags_after a) (λ k. s.payload) s m

unfoldable pub step_of : List ℕ → State → Lent → Stepped
step_of main s m = pending_or_tag s.tags s.payload main s m

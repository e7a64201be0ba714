-- Request 6: "What it says has to be proved true", a sentence each.
use Rattle.std.specs.Prelude.{ℕ, suc, true, false, List, ◌↔◌, ◌≡◌, None, Option, Some}
use Rattle.fields.specs.Counts.{none}
use Rattle.fields.specs.Memory.{quadword_at}
use Rattle.memories.specs.Lengths.{Lent}
use Rattle.vif_codes.specs.Words.{incoming_at}
use Rattle.chain.specs.Answer.{Done, Refused as RunRefused}
use Rattle.chain_state.specs.declared.Payload.{Payload}
use Rattle.chain_state.specs.declared.Payload.TheVariants.{Nothing as NoPayload, Words}
use Rattle.chain.specs.StepAnswer.{Refused}
use Rattle.chain_state.specs.declared.State.{State}
use Rattle.chain.specs.Tags.{tag_step}
use Rattle.chain_state.specs.Range.{entry_refusal}
use Rattle.chain.specs.Step.{stepped_by, fed_unit, vif_given, gif_given, step_of}
use Rattle.chain_state.specs.Setters.{held_by}
use Rattle.chain.specs.Run.{ran, done, run_of}
use Rattle.gif_reason.specs.declared.Numbers.{Numbers}
use Rattle.gif_reason.specs.Reason.{numbers}
use Rattle.gif_reason.specs.Fault.{QuadwordFault}
use Rattle.vif_reason.specs.Fault.{WordFault}
use Rattle.chain_reason.specs.Fault.{TagFault}
use Rattle.diagnosis.specs.Reason.{Reason, Entry, Ended, NoComplaint, Step}
use Rattle.diagnosis.specs.Why.{why_of}

-- the entry tests pass, the run is not done, and the next step gives refusal r
pub record NextGives (main : List ℕ) (s : State) (m : Lent) (r : ℕ) : Type 0 where
  pub passed : entry_refusal main m s ≡ 0
  pub going : done s ≡ false
  pub gives : (step_of main s m).answer ≡ Refused r

-- some step reason names r
pub record Names (r : ℕ) (x : Reason) : Type 0 where
  pub address : ℕ
  pub first : ℕ
  pub second : ℕ
  pub named : x ≡ Step r address first second

-- "the place the step reads", by what is pending in the state: transferred tag words come first, then payload, then the tag at TADR
pub data NothingPending (s : State) : Type 0 where
  no_payload : s.tags ≡ None → s.payload ≡ NoPayload → NothingPending s
  no_words : {a n : ℕ} → s.tags ≡ None → s.payload ≡ Words a n → n ≡ 0 → NothingPending s

pub record PayloadPending (s : State) (a : ℕ) : Type 0 where
  pub count : ℕ
  pub no_tags_lem : s.tags ≡ None
  pub words : s.payload ≡ Words a count
  pub some : count ≡ 0 → ⊥

pub data WordPending (s : State) (a : ℕ) : Type 0 where
  tag_word : s.tags ≡ Some a → WordPending s a
  payload_word : PayloadPending s a → WordPending s a

-- a refusal, an address and what is shown: the address is the place that the step reads, and what is shown is found there and breaks the rule
pub data FoundAt (main : List ℕ) (s : State) (m : Lent) : ℕ → ℕ → Numbers → Type 0 where
  -- the step reads the tag at TADR
  in_tag : {r : ℕ} {x : Numbers} → NothingPending s → step_of main s m ≡ stepped_by (tag_step main s) m → TagFault main s r x → FoundAt main s m r s.tadr x
  -- the step gives the channel's unit the word at a
  in_word : {r : ℕ} {x : Numbers} (a : ℕ) (t : Option ℕ) (p : ℕ → Payload) → WordPending s a → step_of main s m ≡ vif_given main a t p s m
      → WordFault (fed_unit s) (held_by (fed_unit s) s) s.path2 (incoming_at main a) s.used m.log r x → FoundAt main s m r a x
  -- the step gives path 3 the quadword at a
  in_quadword : {r : ℕ} {x : Numbers} (a : ℕ) (p : Payload) → PayloadPending s a → step_of main s m ≡ gif_given main a p s m
      → QuadwordFault s.path3 (quadword_at main a) s.used m.log r x → FoundAt main s m r a x

-- for any memories, log and state
pub record SaysTrue (main : List ℕ) (s : State) (m : Lent) : Type 0 where
  -- "it names refusal r exactly if the next step gives r"
  pub names : (r : ℕ) → Names r (why_of main s m) ↔ NextGives main s m r
  -- "the shown address is the place the step reads, and the shown number is the one found there and does break the rule"
  pub found : (r a x y : ℕ) → why_of main s m ≡ Step r a x y → FoundAt main s m r a (numbers x y)
  -- "Where no step is refused, it says that the chain has ended, if so with nothing pending"
  pub ended : (why_of main s m ≡ Ended) ↔ ((entry_refusal main m s ≡ 0) × (done s ≡ true))
  -- "else that it has no complaint"
  pub clear : (why_of main s m ≡ NoComplaint) ↔ ((entry_refusal main m s ≡ 0) × (done s ≡ false) × ((r : ℕ) → (step_of main s m).answer ≡ Refused r → ⊥))
  -- "An entry refusal is named first, marked as one, without other numbers."
  pub entry : (n : ℕ) → (why_of main s m ≡ Entry n) ↔ ((entry_refusal main m s ≡ n) × (n ≡ 0 → ⊥))

-- the same of runs: what stands still at once, and what a run left
pub record RunsSo (main : List ℕ) (s : State) (m : Lent) : Type 0 where
  -- a run with an allowance above 0 completes no step and answers r exactly if r is named, where the entry tests pass
  pub refused : (r : ℕ) → Names r (why_of main s m) → (n : ℕ) → run_of main (suc n) s m ≡ ran (RunRefused r) s none m
  pub refuses : (r n : ℕ) → entry_refusal main m s ≡ 0 → run_of main (suc n) s m ≡ ran (RunRefused r) s none m → Names r (why_of main s m)
  -- any run is refused so at its entry
  pub entered : (n : ℕ) → why_of main s m ≡ Entry n → (k : ℕ) → run_of main k s m ≡ ran (RunRefused n) s none m
  -- on what a run left that was refused after its entry it names that refusal, and on what a run left that is done it says so
  pub stopped : (r n : ℕ) → entry_refusal main m s ≡ 0 → (run_of main n s m).answer ≡ RunRefused r
      → Names r (why_of main (run_of main n s m).after.state (run_of main n s m).after.memories)
  pub finished : (n : ℕ) → (run_of main n s m).answer ≡ Done → why_of main (run_of main n s m).after.state (run_of main n s m).after.memories ≡ Ended

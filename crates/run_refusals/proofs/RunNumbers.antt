-- A run is refused with the numbers of specs/Numbers and with no other, for any input.
use Rattle.std.specs.Prelude.{None, Option, Some}
use mathlib.Core.Path.{◌≡◌, refl}
use mathlib.Core.Bool.{Bool, true, false}
use mathlib.Core.List.{List}
use Prim.Native.Nat.{ℕ, zero, suc}
use lib.Dec.{eqb}
use borrow.Author.Tests.{eqb-false}
use Rattle.fields.specs.declared.UnitCounts.{UnitCounts}
use Rattle.fields.specs.Memory.{long_at}
use Rattle.fields.proofs.ChoiceLaws.{if_ind, if_ind_by}
use Rattle.gif.specs.declared.GifPath.TheVariants.{Three}
use Rattle.gif.specs.GifAnswer.{GifAnswer}
use Rattle.gif.specs.Step.{Left as GifLeft}
use Rattle.memories.specs.declared.VifUnit.{VifUnit}
use Rattle.memories.specs.Lengths.{Lent, lengths_refusal}
use Rattle.vif_codes.specs.VifAnswer.{VifAnswer}
use Rattle.vif_codes.specs.Words.{incoming_at}
use Rattle.vif.specs.Step.{Left as VifLeft}
use Rattle.chain_state.specs.declared.Stack.{Stack}
use Rattle.chain_state.specs.declared.Payload.{Payload}
use Rattle.chain_state.specs.declared.Payload.TheVariants.{Nothing as NoPayload, Words}
use Rattle.chain_state.specs.declared.State.{State}
use Rattle.chain_state.specs.Setters.{held_by}
use Rattle.chain_state.specs.Pending.{tags_after, payload_after}
use Rattle.chain_state.specs.Range.{unit_of, entry_refusal}
use Rattle.chain.specs.StepAnswer.{StepAnswer, StateStepped, Completed, Refused as StepRefused}
use Rattle.chain.specs.Answer.{Answer, Done, Allowance, Interrupt, Refused}
use Rattle.chain.specs.Tags.{tag_refusal, tag_answer, tag_read, tag_step}
use Rattle.chain.specs.Step.{Stepped, fed_unit, after_vif, vif_took, vif_given, after_gif, gif_given, payload_step, payload_or_tag, pending_or_tag, step_of}
use Rattle.chain.specs.Run.{Ran, done, after_step, steps_of, run_of}
use Rattle.run_refusals.specs.Numbers.{EntryNumber, main_1, mem_2, code_3, log_4, range_5, pending_14, TagNumber, tadr_10, unaligned_11, scratchpad_12, stack_13, payload_14, StepNumber, of_tag, of_word, of_quadword, RunNumber, of_entry, of_step}
use Rattle.run_refusals.proofs.GifNumbers.{GifTold, gif_taken, gif_refusal, gif_told}
use Rattle.run_refusals.proofs.VifNumbers.{VifTold, word_taken, quadword_taken, vif_refusal, vif_told}

-- ---- a step

data StepTold : StepAnswer → Type 0 where
  completed : {i : Bool} → StepTold (Completed i)
  step_refusal : {n : ℕ} → StepNumber n → StepTold (StepRefused n)

-- no refusal, or one of a tag's
data TagTold : ℕ → Type 0 where
  read : TagTold 0
  tag_refusal_lem : {n : ℕ} → TagNumber n → TagTold n

some_tag : {n : ℕ} → TagTold n → eqb n 0 ≡ false → TagNumber n
some_tag read e = absurd (eqb-false 0 0 e refl)
some_tag (tag_refusal_lem s) e = s

tag_told : (size tadr id addr : ℕ) (spr : Bool) (qwc : ℕ) (k : Stack) → TagTold (tag_refusal size tadr id addr spr qwc k)
unfolding tag_refusal
tag_told size tadr id addr spr qwc k =
    if_ind TagTold _ (tag_refusal_lem tadr_10)
    (if_ind TagTold _ (tag_refusal_lem unaligned_11)
    (if_ind TagTold _ (tag_refusal_lem scratchpad_12)
    (if_ind TagTold _ (tag_refusal_lem stack_13)
    (if_ind TagTold _ (tag_refusal_lem payload_14) read))))

answer_told : (n tag : ℕ) (s : State) → TagTold n → StepTold (tag_answer n tag s).answer
answer_told n tag s t =
    if_ind_by (λ (r : StateStepped). StepTold r.answer) (eqb n 0) (λ _. completed) (λ e. step_refusal (of_tag (some_tag t e)))

read_told : (main : List ℕ) (s : State) → StepTold (tag_step main s).answer
unfolding tag_read
read_told main s = answer_told _ (long_at main s.tadr) s (tag_told _ _ _ _ _ _ _)

after_vif_told : (which : VifUnit) {a : VifAnswer} (c : UnitCounts) (o : VifLeft) (t : Option ℕ) (p : ℕ → Payload) (s : State) (m : Lent) → VifTold a
    → StepTold (after_vif which a c o t p s m).answer
after_vif_told which c o t p s m word_taken = completed
after_vif_told which c o t p s m quadword_taken = completed
after_vif_told which c o t p s m (vif_refusal n) = step_refusal (of_word n)

word_told : (main : List ℕ) (a : ℕ) (t : Option ℕ) (p : ℕ → Payload) (s : State) (m : Lent) → StepTold (vif_given main a t p s m).answer
unfolding vif_given
word_told main a t p s m =
    after_vif_told (fed_unit s) _ (vif_took (fed_unit s) main a s m) t p s m
    (vif_told (fed_unit s) (held_by (fed_unit s) s) s.path2 (incoming_at main a) s.used m)

after_gif_told : {a : GifAnswer} (o : GifLeft) (p : Payload) (s : State) (m : Lent) → GifTold a → StepTold (after_gif a o p s m).answer
after_gif_told o p s m gif_taken = completed
after_gif_told o p s m (gif_refusal n) = step_refusal (of_quadword n)

quadword_told : (main : List ℕ) (a : ℕ) (p : Payload) (s : State) (m : Lent) → StepTold (gif_given main a p s m).answer
unfolding gif_given
quadword_told main a p s m = after_gif_told _ p s m (gif_told Three s.path3 _ s.used m.log)

payload_told : (main : List ℕ) (at n : ℕ) (s : State) (m : Lent) → StepTold (payload_step main at n s m).answer
unfolding payload_step
payload_told main at n s m =
    if_ind (λ (x : Stepped). StepTold x.answer) (eqb s.channel 2) (quadword_told main at (payload_after at n 4) s m)
    (word_told main at s.tags (payload_after at n) s m)

payload_or_tag_told : (p : Payload) (main : List ℕ) (s : State) (m : Lent) → StepTold (payload_or_tag p main s m).answer
payload_or_tag_told NoPayload main s m = read_told main s
payload_or_tag_told (Words at n) main s m =
    if_ind (λ (x : Stepped). StepTold x.answer) (eqb n 0) (read_told main s) (payload_told main at n s m)

pending_told : (t : Option ℕ) (p : Payload) (main : List ℕ) (s : State) (m : Lent) → StepTold (pending_or_tag t p main s m).answer
pending_told None p main s m = payload_or_tag_told p main s m
pending_told (Some a) p main s m = word_told main a (tags_after a) (λ k. s.payload) s m

step_told : (main : List ℕ) (s : State) (m : Lent) → StepTold (step_of main s m).answer
unfolding step_of
step_told main s m = pending_told s.tags s.payload main s m

step_number : {n : ℕ} → StepTold (StepRefused n) → StepNumber n
step_number (step_refusal s) = s

-- a step is refused with a number of its kind
pub step_refused : (main : List ℕ) (s : State) (m : Lent) {n : ℕ} → (step_of main s m).answer ≡ StepRefused n → StepNumber n
step_refused main s m h = let t = step_told main s m in step_number (rw h at t)

-- ---- the entry

data EntryTold : ℕ → Type 0 where
  accepted : EntryTold 0
  entry_refusal_lem : {n : ℕ} → EntryNumber n → EntryTold n

lengths_told : (u : VifUnit) (m : Lent) (used : ℕ) → EntryTold (lengths_refusal u m used)
unfolding lengths_refusal
lengths_told u m used =
    if_ind EntryTold _ (entry_refusal_lem mem_2) (if_ind EntryTold _ (entry_refusal_lem code_3) (if_ind EntryTold _ (entry_refusal_lem log_4) accepted))

entry_told : (main : List ℕ) (m : Lent) (s : State) → EntryTold (entry_refusal main m s)
unfolding entry_refusal
entry_told main m s =
    if_ind EntryTold _ (entry_refusal_lem main_1)
    (if_ind EntryTold _ (lengths_told (unit_of s.channel) m s.used)
    (if_ind EntryTold _ (entry_refusal_lem range_5)
    (if_ind EntryTold _ (entry_refusal_lem pending_14) accepted)))

some_entry : {n : ℕ} → EntryTold n → eqb n 0 ≡ false → EntryNumber n
some_entry accepted e = absurd (eqb-false 0 0 e refl)
some_entry (entry_refusal_lem s) e = s

-- ---- the run

data RunTold : Answer → Type 0 where
  run_done : RunTold Done
  run_allowance : RunTold Allowance
  run_interrupt : RunTold Interrupt
  run_refusal : {n : ℕ} → RunNumber n → RunTold (Refused n)

after_step_told : (f : State → Lent → Ran) {a : StepAnswer} (x : Stepped) (s : State) (m : Lent) → ((s : State) (m : Lent) → RunTold (f s m).answer) → StepTold a
    → RunTold (after_step f a x s m).answer
after_step_told f x s m t (completed {i = true}) = run_interrupt
after_step_told f x s m t (completed {i = false}) = t x.after.state x.after.memories
after_step_told f x s m t (step_refusal n) = run_refusal (of_step n)

steps_told : (main : List ℕ) (n : ℕ) (s : State) (m : Lent) → RunTold (steps_of main n s m).answer
unfolding steps_of
steps_told main zero s m = if_ind (λ (r : Ran). RunTold r.answer) (done s) run_done run_allowance
steps_told main (suc n) s m =
    if_ind (λ (r : Ran). RunTold r.answer) (done s) run_done
    (after_step_told (steps_of main n) (step_of main s m) s m (steps_told main n) (step_told main s m))

run_told : (main : List ℕ) (allowance : ℕ) (s : State) (m : Lent) → RunTold (run_of main allowance s m).answer
unfolding run_of
run_told main allowance s m =
    if_ind_by (λ (r : Ran). RunTold r.answer) (eqb (entry_refusal main m s) 0) (λ _. steps_told main allowance s m)
    (λ e. run_refusal (of_entry (some_entry (entry_told main m s) e)))

run_number : {n : ℕ} → RunTold (Refused n) → RunNumber n
run_number (run_refusal s) = s

-- a run of any chain from any state on is refused with a number of the entry or of a step
pub run_refused : (main : List ℕ) (allowance : ℕ) (s : State) (m : Lent) {n : ℕ} → (run_of main allowance s m).answer ≡ Refused n → RunNumber n
run_refused main allowance s m h = let t = run_told main allowance s m in run_number (rw h at t)

-- The next step tried on memories and a log of its own tells what it answers on others.
use Rattle.std.specs.Prelude.{None, Option, Some, Ok}
use mathlib.Core.Path.{◌≡◌, refl, sym, ap, ◌∙◌}
use mathlib.Core.Bool.{Bool, true, false, not, ◌&&◌}
use mathlib.Core.List.{List}
use Prim.Native.Nat.{ℕ, ◌+◌, ◌*◌, ◌%◌, ◌≤◌}
use native.Mathlib.Omega.{arith}
use lib.ListN.{length, take}
use lib.Seq.{length-take-le}
use lib.Dec.{eqb, ltb}
use Rattle.fields.specs.Fields.{if}
use Rattle.fields.specs.Refusals.{log_full}
use Rattle.fields.specs.Memory.{long_at, quadword_at}
use Rattle.fields.proofs.ChoiceLaws.{if_ind}
use Rattle.gif.specs.declared.GifPath.TheVariants.{Three}
use Rattle.gif.specs.GifAnswer.{GifAnswer, Taken, Refused as GifRefused}
use Rattle.gif.specs.Log.{entry_size, lacks_room, log_refused}
use Rattle.gif.specs.Step.{Left as GifLeft, gif_step}
use Rattle.gif.proofs.RangeLaws.{log_fits}
use Rattle.memories.specs.declared.VifUnit.{VifUnit}
use Rattle.memories.specs.Units.{quadwords, instructions, data_words, code_bytes}
use Rattle.memories.specs.Lengths.{Lent, lent}
use Rattle.vif_codes.specs.VifAnswer.{VifAnswer, Word, Quadword, Refused as VifRefused}
use Rattle.vif_codes.specs.Words.{incoming_at}
use Rattle.vif.specs.Step.{Left as VifLeft}
use Rattle.chain.specs.declared.Ending.{Ending}
use Rattle.chain.specs.declared.Ending.TheVariants.{Done as EndingDone, Allowance as EndingAllowance, Interrupt as EndingInterrupt}
use Rattle.chain.specs.Answer.{Done, Allowance, run_answer}
use Rattle.chain_state.specs.declared.Payload.{Payload}
use Rattle.chain_state.specs.declared.Payload.TheVariants.{Nothing as NoPayload, Words}
use Rattle.chain_state.specs.declared.Stack.{Stack}
use Rattle.chain.specs.StepAnswer.{StepAnswer, Completed, Refused}
use Rattle.chain_state.specs.declared.State.{State}
use Rattle.chain_state.specs.Pending.{tags_after, payload_after}
use Rattle.chain.specs.Tags.{qwc_of, id_of, addr_of, spr_of, uses_addr, payload_at, is_full, tag_refusal, tag_state, completed_result, refused_result, tag_read, tag_step}
use Rattle.chain_state.specs.Range.{entry_refusal}
use Rattle.chain.specs.Step.{Stepped, stepped_by, fed_unit, after_vif, vif_took, vif_given, after_gif, gif_given, payload_step, payload_or_tag, pending_or_tag, step_of}
use Rattle.chain_state.specs.Setters.{held_by}
use Rattle.chain.specs.Run.{Ran, ran, done, after_step, steps_of, run_of}
use Rattle.chain.proofs.ReadyLaws.{facts_of, ready_of}
use Rattle.fields.specs.declared.Counts.{Counts}
use Rattle.fields.specs.declared.UnitCounts.{UnitCounts}
use Rattle.fields.specs.Counts.{none, one_tag}
use Rattle.gif_reason.specs.declared.Numbers.{Numbers}
use Rattle.gif_reason.specs.Reason.{quadword_needs}
use Rattle.chain_reason.specs.Reason.{next_place}
use Rattle.gif_reason.proofs.Trial.{Outcome, goes, refuses, no_goes, same_number, Tried as TriedOn, refuses_tried, goes_tried, carried, outcome_of as gifOutcome, quadword_tried}
use Rattle.vif_reason.proofs.Trial.{outcome_of as vifOutcome, word_tried}
use Rattle.diagnosis.specs.Inner.{Trial, Needs, Refused as TrialRefused}
use Rattle.diagnosis.specs.Inner.{Clear, Refuses}
use Rattle.diagnosis.specs.Why.{unit_needs, payload_needs, payload_or_tag_needs, pending_needs, next_needs, step_reason, on_answer}
use Rattle.diagnosis.specs.Inner.{with_none_used, trial_of, roomed, told_by, Tried}
use Rattle.diagnosis.proofs.NeedLaws.{next_needless}

abbrev outcome_of : StepAnswer → Outcome
outcome_of (Completed i) = goes
outcome_of (Refused n) = refuses n

tag_otherwise : (size tadr id addr : ℕ) (spr : Bool) (qwc : ℕ) (k : Stack) → tag_refusal size tadr id addr spr qwc k ≡ log_full → ⊥
unfolding tag_refusal
tag_otherwise size tadr id addr spr qwc k =
    if_ind P (ltb size (tadr + 16)) (λ e. omega arith)
    (if_ind P (uses_addr id && not (eqb (addr % 16) 0)) (λ e. omega arith)
    (if_ind P (uses_addr id && spr) (λ e. omega arith)
    (if_ind P (eqb id 5 && is_full k) (λ e. omega arith)
    (if_ind P (not (eqb qwc 0) && ltb size (payload_at id addr tadr + 16 * qwc)) (λ e. omega arith) (λ e. omega arith)))))
  where
    P : ℕ → Type 0
    P n = n ≡ log_full → ⊥

-- ---- the step

module _ (main : List ℕ) (s : State) (m : Lent) (fits : entry_size * s.used ≤ length m.log) (m' : Lent) (long : length m'.log ≡ 6) where
  -- a step on these memories, and on the spare ones with no entry used
  record TriedStep (k : ℕ) (x y : Stepped) : Type 0 where
    tried : TriedOn m.log s.used k (outcome_of x.answer) (outcome_of y.answer) y.after.state.used

  tried_either : (k : ℕ) (b : Bool) {x x' y y' : Stepped} → TriedStep k x x' → TriedStep k y y' → TriedStep k (if b x y) (if b x' y')
  unfolding if
  tried_either k true t u = t
  tried_either k false t u = u

  tried_tag : TriedStep 0 (stepped_by (tag_step main s) m) (stepped_by (tag_step main (with_none_used s)) m')
  unfolding tag_read tag_state if
  tried_tag = go (eqb n 0)
    where
      tag : ℕ
      tag = long_at main s.tadr

      n : ℕ
      n = tag_refusal (length main) s.tadr (id_of tag) (addr_of tag) (spr_of tag) (qwc_of tag) s.stack

      counts : Counts
      counts = one_tag (id_of tag) (qwc_of tag)

      go : (b : Bool) → TriedStep 0 (stepped_by (if b (completed_result false counts (tag_state (id_of tag) (addr_of tag) (qwc_of tag) s)) (refused_result n s)) m)
          (stepped_by (if b (completed_result false counts (tag_state (id_of tag) (addr_of tag) (qwc_of tag) (with_none_used s))) (refused_result n (with_none_used s))) m')
      go true = record { tried = goes_tried m.log s.used 0 fits }
      go false = record { tried = refuses_tried m.log s.used 0 n 0 (tag_otherwise (length main) s.tadr (id_of tag) (addr_of tag) (spr_of tag) (qwc_of tag) s.stack) }

  tried_after_vif : (k : ℕ) (which : VifUnit) (a b : VifAnswer) (e f : UnitCounts) (o q : VifLeft) (t : Option ℕ) (p : ℕ → Payload)
      → TriedOn m.log s.used k (vifOutcome a) (vifOutcome b) q.used → TriedStep k (after_vif which a e o t p s m) (after_vif which b f q t p (with_none_used s) m')
  tried_after_vif k which a b e f o q t p h = record { tried = rw (same s m o e a, same (with_none_used s) m' q f b) (carried m.log s.used k (vifOutcome b) _ h (count b)) }
    where
      same : (u : State) (l : Lent) (x : VifLeft) (d : UnitCounts) (c : VifAnswer) → outcome_of (after_vif which c d x t p u l).answer ≡ vifOutcome c
      same u l x d (Word i) = refl
      same u l x d (Quadword i c) = refl
      same u l x d (VifRefused n) = refl

      count : (c : VifAnswer) → vifOutcome c ≡ goes → (after_vif which c f q t p (with_none_used s) m').after.state.used ≡ q.used
      count (Word i) e = refl
      count (Quadword i c) e = refl
      count (VifRefused n) e = absurd (no_goes (sym e))

  tried_vif : (a : ℕ) (t : Option ℕ) (p : ℕ → Payload) → TriedStep (unit_needs main a s) (vif_given main a t p s m) (vif_given main a t p (with_none_used s) m')
  unfolding vif_given
  tried_vif a t p =
      tried_after_vif (unit_needs main a s) (fed_unit s) (vif_took (fed_unit s) main a s m).answer (vif_took (fed_unit s) main a (with_none_used s) m').answer _ _ (vif_took (fed_unit s) main a s m) (vif_took (fed_unit s) main a (with_none_used s) m') t p
      (word_tried (fed_unit s) (held_by (fed_unit s) s) s.path2 s.used m fits m' long (incoming_at main a))

  tried_after_gif : (k : ℕ) (a b : GifAnswer) (o q : GifLeft) (p : Payload) → TriedOn m.log s.used k (gifOutcome a) (gifOutcome b) q.used
      → TriedStep k (after_gif a o p s m) (after_gif b q p (with_none_used s) m')
  tried_after_gif k a b o q p h = record { tried = rw (same s m o a, same (with_none_used s) m' q b) (carried m.log s.used k (gifOutcome b) _ h (count b)) }
    where
      same : (u : State) (l : Lent) (x : GifLeft) (c : GifAnswer) → outcome_of (after_gif c x p u l).answer ≡ gifOutcome c
      same u l x (Taken c) = refl
      same u l x (GifRefused n) = refl

      count : (c : GifAnswer) → gifOutcome c ≡ goes → (after_gif c q p (with_none_used s) m').after.state.used ≡ q.used
      count (Taken c) e = refl
      count (GifRefused n) e = absurd (no_goes (sym e))

  tried_gif : (a : ℕ) (p : Payload) → TriedStep (quadword_needs s.path3 (quadword_at main a)) (gif_given main a p s m) (gif_given main a p (with_none_used s) m')
  unfolding gif_given
  tried_gif a p =
      tried_after_gif (quadword_needs s.path3 (quadword_at main a)) (gif_step Three s.path3 (quadword_at main a) s.used m.log).answer (gif_step Three s.path3 (quadword_at main a) 0 m'.log).answer _ (gif_step Three s.path3 (quadword_at main a) 0 m'.log) p
      (quadword_tried Three s.path3 s.used m.log m'.log long (quadword_at main a))

  tried_payload : (at n : ℕ) → TriedStep (payload_needs main at s) (payload_step main at n s m) (payload_step main at n (with_none_used s) m')
  unfolding payload_step payload_needs if
  tried_payload at n = go (eqb s.channel 2)
    where
      go : (b : Bool) → TriedStep (if b (quadword_needs s.path3 (quadword_at main at)) (unit_needs main at s)) (if b (gif_given main at (payload_after at n 4) s m) (vif_given main at s.tags (payload_after at n) s m))
          (if b (gif_given main at (payload_after at n 4) (with_none_used s) m') (vif_given main at s.tags (payload_after at n) (with_none_used s) m'))
      go true = tried_gif at (payload_after at n 4)
      go false = tried_vif at s.tags (payload_after at n)

  tried_payload_or_tag : (p : Payload) → TriedStep (payload_or_tag_needs p main s) (payload_or_tag p main s m) (payload_or_tag p main (with_none_used s) m')
  unfolding if
  tried_payload_or_tag NoPayload = tried_tag
  tried_payload_or_tag (Words at n) = go (eqb n 0)
    where
      go : (b : Bool) → TriedStep (if b 0 (payload_needs main at s)) (if b (stepped_by (tag_step main s) m) (payload_step main at n s m)) (if b (stepped_by (tag_step main (with_none_used s)) m') (payload_step main at n (with_none_used s) m'))
      go true = tried_tag
      go false = tried_payload at n

  tried_pending : (t : Option ℕ) (p : Payload) → TriedStep (pending_needs t p main s) (pending_or_tag t p main s m) (pending_or_tag t p main (with_none_used s) m')
  tried_pending None p = tried_payload_or_tag p
  tried_pending (Some a) p = tried_vif a (tags_after a) (λ k. s.payload)

  step_tried : TriedStep (next_needs main s) (step_of main s m) (step_of main (with_none_used s) m')
  unfolding step_of next_needs
  step_tried = tried_pending s.tags s.payload

-- ---- a run of one step

abbrev tried_by : StepAnswer → ℕ → Trial
tried_by (Completed i) k = Needs k
tried_by (Refused n) k = TrialRefused n

ended_tried : (main : List ℕ) (s : State) (m : Lent) (b : Bool) → trial_of (if b (ran Done s none m) (ran Allowance s none m)).answer (if b (ran Done s none m) (ran Allowance s none m)).after.state.used ≡ Needs s.used
unfolding if
ended_tried main s m true = refl
ended_tried main s m false = refl

step_run : (main : List ℕ) (s : State) (m : Lent) (x : Stepped) (a : StepAnswer)
    → trial_of (after_step (steps_of main 0) a x s m).answer (after_step (steps_of main 0) a x s m).after.state.used ≡ tried_by a x.after.state.used
unfolding steps_of
step_run main s m x (Completed true) = refl
step_run main s m x (Completed false) = ended_tried main x.after.state x.after.memories (done x.after.state)
step_run main s m x (Refused n) = refl

run_tried : (main : List ℕ) (s : State) (m : Lent) → entry_refusal main m s ≡ 0 → done s ≡ false
    → trial_of (run_of main 1 s m).answer (run_of main 1 s m).after.state.used ≡ tried_by (step_of main s m).answer (step_of main s m).after.state.used
unfolding run_of steps_of if
run_tried main s m h d = rw (h, d) (step_run main s m (step_of main s m) (step_of main s m).answer)

-- ---- what a trial tells

module _ (main : List ℕ) (s : State) (log : List ℕ) where
  by_room : (xa : StepAnswer) (b : Bool) (k : ℕ) → outcome_of xa ≡ if b (refuses log_full) goes → (outcome_of xa ≡ refuses log_full → k ≡ next_needs main s)
      → told_by (if b (Refuses log_full k) Clear) main s log ≡ on_answer xa main s log
  unfolding if
  by_room (Completed i) true k e f = absurd (no_goes e)
  by_room (Completed i) false k e f = refl
  by_room (Refused n) true k e f = rw (f e, same_number e)
  by_room (Refused n) false k e f = absurd (no_goes (sym e))

  told_as : (xa ya : StepAnswer) (k : ℕ) → TriedOn log s.used (next_needs main s) (outcome_of xa) (outcome_of ya) k
      → told_by (roomed (tried_by ya k) log s.used) main s log ≡ on_answer xa main s log
  told_as xa (Completed i) k t = by_room xa (lacks_room log s.used k) k t.alike t.needs
  told_as (Completed i) (Refused n) k t = absurd (no_goes t.alike)
  told_as (Refused j) (Refused n) k t =
      rw (same_number t.alike) (ap (λ (x : Numbers). step_reason n (next_place s) x) (next_needless n (t.other n refl) 0 (next_needs main s) main s log))

-- spare memories of a unit's sizes, and a log with room for two entries
pub record Spare (which : VifUnit) (m : Lent) : Type 0 where
  pub mem_length : length m.mem ≡ data_words which
  pub code_length_lem : length m.code ≡ code_bytes which
  pub log_length_lem : length m.log ≡ 6

-- they are the first parts of memories that are large enough for either unit
pub spare : {u : VifUnit} {q i : ℕ} → q ≡ quadwords u → q ≤ 1024 → i ≡ instructions u → i ≤ 2048 → (words bytes log : List ℕ) → length words ≡ 4096
    → length bytes ≡ 16384
    → length log ≡ 6
    → Spare u (lent (take (4 * q) words) (take (8 * i) bytes) log)
spare e k f l words bytes log m n h =
    record { mem_length = length-take-le _ words (omega arith) ∙ omega arith; code_length_lem = length-take-le _ bytes (omega arith) ∙ omega arith; log_length_lem = h }

spare_ready : (main : List ℕ) (s : State) (m m' : Lent) → Spare (fed_unit s) m' → entry_refusal main m s ≡ 0 → entry_refusal main m' (with_none_used s) ≡ 0
unfolding log_refused
spare_ready main s m m' p h =
    let f = facts_of {main = main} {s = s} {m = m} (record { passed = h }) in
    (ready_of {main = main} {s = with_none_used s} {m = m'}
    (record {
      size = f.size;
      fit = record { long = p.mem_length; wide = p.code_length_lem; logged = rw p.log_length_lem };
      fields =
          record {
            start = f.fields.start;
            stack = f.fields.stack;
            tags = f.fields.tags;
            payload = f.fields.payload;
            unit0 = f.fields.unit0;
            unit1 = f.fields.unit1;
            path2 = f.fields.path2;
            path3 = f.fields.path3;
          };
      tags_in = f.tags_in;
      payload_in_lem = f.payload_in_lem;
    })
    ).passed

pub log_held : (main : List ℕ) (s : State) (m : Lent) → entry_refusal main m s ≡ 0 → entry_size * s.used ≤ length m.log
log_held main s m h = (log_fits m.log s.used (facts_of {main = main} {s = s} {m = m} (record { passed = h })).fit.logged).holds

pub trial_tells : {main : List ℕ} {s : State} {m' : Lent} {which : VifUnit} → fed_unit s ≡ which → Spare which m' → {t : State} → t ≡ with_none_used s → {x : Ran}
    → x ≡ run_of main 1 t m' → {r : Trial} → r ≡ trial_of x.answer x.after.state.used → Tried main s r
unfolding done
trial_tells {main} {s} {m'} w p e ex er =
    record {
      tells =
          λ m h d.
          let k = (step_tried main s m (log_held main s m h) m' p.log_length_lem).tried in
          rw (er, ex, e, run_tried main (with_none_used s) m' (spare_ready main s m m' (rw w p) h) d)
          (told_as main s m.log (step_of main s m).answer (step_of main (with_none_used s) m').answer (step_of main (with_none_used s) m').after.state.used k);
    }

-- by what a run answered
pub trial_of_ok : (e : Ending) (k : ℕ) → Needs k ≡ trial_of (run_answer (Ok e)) k
trial_of_ok EndingDone k = refl
trial_of_ok EndingAllowance k = refl
trial_of_ok EndingInterrupt k = refl

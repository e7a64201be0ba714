-- Words and quadwords of the payload given one after another are so many steps of a run.
use Rattle.std.specs.Prelude.{None}
use mathlib.Core.Path.{◌≡◌, refl, sym, ap, ◌∙◌}
use mathlib.Core.Bool.{Bool, true, false, ◌&&◌}
use mathlib.Core.List.{List}
use Prim.Native.Nat.{ℕ, zero, suc, ◌+◌, ◌*◌, ◌-◌, ◌/◌, ◌^◌, ◌<◌, ◌≤◌}
use native.Mathlib.Nat.{add-zero, sub-zero}
use native.Mathlib.Numerals.{one-add}
use native.Mathlib.Omega.{arith}
use borrow.Author.Tests.{eqb-false, leb-true, leb-false, le-leb, lt-leb, ne_eqb}
use lib.Dec.{eqb, leb}
use Rattle.fields.specs.declared.Counts.{Counts}
use Rattle.fields.specs.declared.UnitCounts.{UnitCounts}
use Rattle.fields.specs.Counts.{no_units, quadwords_alone, of_unit, none, plus, plus_modulo, SumsFit}
use Rattle.fields.proofs.CountLaws.{plus_none, fit_part, plus_fits}
use Rattle.fields.specs.Fields.{if}
use Rattle.fields.proofs.ChoiceLaws.{if_ind, if_ind_by, and_false}
use Rattle.fields.specs.Memory.{quadword_at}
use Rattle.gif.specs.declared.GifPath.TheVariants.{Three}
use Rattle.gif.specs.declared.Path.{Path}
use Rattle.gif.specs.GifAnswer.{GifAnswer, Taken, Refused as GifRefused}
use Rattle.gif.specs.declared.QuadwordsResult.{QuadwordsResult}
use Rattle.gif.specs.Step.{Left as GifLeft, gif_step}
use Rattle.gif.specs.Feed.{Fed as GifFed, fed as gifFed, fed_by, after_quadword, feeds_of as gifFeedsOf, feed_of as gifFeedOf}
use Rattle.gif.proofs.FeedLaws.{feed_few}
use Rattle.memories.specs.declared.VifUnit.{VifUnit}
use Rattle.memories.specs.declared.VifUnit.TheVariants.{Vif0, Vif1}
use Rattle.memories.specs.Lengths.{Lent, lent}
use Rattle.vif_codes.specs.declared.Vif.{Vif}
use Rattle.vif_codes.specs.VifAnswer.{VifAnswer, Word, Quadword, Refused as VifRefused}
use Rattle.vif_codes.specs.Counting.{counts_in}
use Rattle.vif_codes.specs.Words.{incoming_at}
use Rattle.vif.specs.declared.WordsResult.{WordsResult}
use Rattle.vif.specs.Step.{Left as VifLeft, vif_step}
use Rattle.vif.specs.Feeds.{Fed, fed}
use Rattle.vif.specs.Feed.{FedOn, fed_on, fed_on_by, fed_to, step_more, after_word, feeds_of, feed_of}
use Rattle.chain.specs.Answer.{Interrupt, Refused as AnswerRefused}
use Rattle.chain_state.specs.declared.Payload.{Payload}
use Rattle.chain_state.specs.declared.Payload.TheVariants.{Nothing as NoPayload, Words}
use Rattle.chain.specs.StepAnswer.{StepAnswer, Completed, Refused, StateStepped}
use Rattle.chain_state.specs.declared.State.{State}
use Rattle.chain_state.specs.Setters.{pick_unit, with_pending, with_unit, with_path3, held_by}
use Rattle.chain_state.specs.Pending.{no_tags, payload_after}
use Rattle.chain.specs.Inner.{Ready, PayloadInside, PayloadNext, Burst, Advance}
use Rattle.chain.specs.Step.{Machine, machine, Stepped, stepped, stepped_by, fed_unit, after_vif, vif_given, after_gif, given_gif, gif_given, payload_step, step_of}
use Rattle.chain.specs.Run.{Ran, ran, done, counted, steps_of}
use Rattle.chain.specs.Stops.{step_from, Reaches, here, step}
use Rattle.chain.proofs.AfterLaws.{no_completed, step_same, step_one}
use Rattle.chain.proofs.RunLaws.{counted_twice, run_goes, run_interrupts, run_refuses}
use Rattle.chain.proofs.Theorems.{run_from_lem}

-- ---- bursts of steps

-- a step, by what it leaves
pub step_by : {main : List ℕ} {c : Counts} {x z : Machine} {o : Stepped} → done x.state ≡ false → step_from main x ≡ o → o.answer ≡ Completed false
    → Reaches main c o.after z → Reaches main (plus o.counts c) x z
step_by {main} {c} {x} {z} d e q r = rw (← e) (step {c = c} {x = x} {z = z} d (rw e q) (rw e r))

-- steps of which none is an interrupt mark
burst_of : {main : List ℕ} {n : ℕ} {c : Counts} {x y : Machine} → c.steps ≤ n → Reaches main c x y → Burst main n x false c y
burst_of l r = record { few = l; some = λ h. absurd (differ h); goes = λ h. r; stops = λ h. absurd (differ h) }
  where
    differ : false ≡ true → ⊥
    differ h = let z : ◌≡◌ {A = ℕ} 0 1 = cc in omega arith

-- no step
pub burst_none : (main : List ℕ) (n : ℕ) (x : Machine) → Burst main n x false none x
burst_none main n x = burst_of (omega arith) here

module _ (main : List ℕ) (n : ℕ) (x : Machine) (d : done x.state ≡ false) {o : Stepped} (e : step_from main x ≡ o) where
  -- one, that is an interrupt mark
  pub burst_stops : o.answer ≡ Completed true → Burst main (suc n) x true o.counts o.after
  burst_stops q =
      let one = step_one main x.state x.memories o (sym e) true q in
      record {
        few = omega arith;
        some = λ h. omega arith;
        goes = λ h. absurd (let z : ◌≡◌ {A = ℕ} 0 1 = cc in omega arith);
        stops = λ h. run_interrupts main x.state x.memories (suc n) n refl d (sym e) q;
      }

  -- one more
  pub burst_goes : {i : Bool} {c : Counts} {y : Machine} → o.answer ≡ Completed false → Burst main n o.after i c y → Burst main (suc n) x i (plus o.counts c) y
  burst_goes q b =
      let l = b.few in
      let one = step_one main x.state x.memories o (sym e) false q in
      record {
        few = omega arith;
        some = λ h. omega arith;
        goes = λ h. step_by d e q (b.goes h);
        stops = λ h. run_goes main x.state x.memories (suc n) n refl d (sym e) q ∙ ap (counted o.counts) (b.stops h);
      }

-- ---- some steps at once, or else one

same_told : {i j : Bool} → Completed i ≡ Completed j → i ≡ j
same_told q = cc

module _ {main : List ℕ} {n : ℕ} {x : Machine} {i : Bool} {c : Counts} {y : Machine} (b : Burst main n x i c y) where
  pub advance_burst : (c.steps ≡ 0 → ⊥) → Advance main n x (Completed i) c y
  advance_burst z =
      record {
        few = b.few;
        some = λ q. omega arith;
        goes = λ q. b.goes (same_told q);
        interrupts = λ q. b.stops (same_told q);
        refuses = λ k q. absurd (no_completed (sym q));
      }

  -- a burst of no step leaves the machine as it was
  burst_empty : c.steps ≡ 0 → x ≡ y
  burst_empty z = go i refl
    where
      nowhere : {d : Counts} {u v : Machine} → Reaches main d u v → d.steps ≡ 0 → u ≡ v
      nowhere here e = refl
      nowhere (step {x = u} g a p) e = let one = step_one main u.state u.memories (step_from main u) refl false a in absurd (omega arith)

      go : (t : Bool) → i ≡ t → x ≡ y
      go true q = let l = b.some q in absurd (omega arith)
      go false q = nowhere (b.goes q) z

  pub empty_ready : c.steps ≡ 0 → Ready main x.state x.memories → Ready main y.state y.memories
  empty_ready z r = rw (← burst_empty z) r

-- one step
module _ (main : List ℕ) (n : ℕ) (s : State) (m : Lent) (d : done s ≡ false) (l : 1 ≤ n) {o : Stepped} (e : o ≡ step_of main s m) where
  one_most : (a : StepAnswer) → o.answer ≡ a → o.counts.steps ≤ 1
  one_most (Completed i) q = let one = step_one main s m o e i q in omega arith
  one_most (Refused c) q = rw (step_same main s m o e c q) (omega arith)

  left : n ≡ suc (n - 1)
  left = omega arith

  advance_step : Advance main n (machine s m) o.answer o.counts o.after
  advance_step =
      let f = one_most o.answer refl in
      record {
        few = omega arith;
        some = λ q. let one = step_one main s m o e false q in omega arith;
        goes = λ q. rw (plus_none o.counts) at (step_by d (sym e) q here);
        interrupts = λ q. run_interrupts main s m n (n - 1) left d e q;
        refuses = λ c q. rw (step_same main s m o e c q) (run_refuses main s m n (n - 1) left d e q);
      }

pub advance_one : {main : List ℕ} {n : ℕ} {s : State} {m : Lent} {i : Bool} {c : Counts} {t : State} {m₁ : Lent} → Burst main n (machine s m) i c (machine t m₁)
    → c.steps ≡ 0 → done s ≡ false → 1 ≤ n → (r : StateStepped) {m₂ : Lent} → stepped_by r m₂ ≡ step_of main t m₁
    → Advance main n (machine s m) r.answer r.counts (machine r.state m₂)
advance_one {main} {n} {s} {m} {i} {c} {t} {m₁} b z d l r e =
    let w = burst_empty b z in
    rw w (advance_step main n t m₁ (ap (λ (y : Machine). done y.state) (sym w) ∙ d) l e)

-- in a run with steps before
module _ (main : List ℕ) (s : State) (m : Lent) (c : Counts) (allowance : ℕ) {w : Ran} (e : counted c (steps_of main (allowance - c.steps) s m) ≡ w)
    {a : StepAnswer} {j : Counts} {y : Machine} (b : Advance main (allowance - c.steps) (machine s m) a j y) where
  pub goes_on : c.steps < allowance → a ≡ Completed false
      → counted (plus c j) (steps_of main (allowance - (c.steps + j.steps)) y.state y.memories) ≡ w
  goes_on l h =
      let f = b.few in
      let k = allowance - (c.steps + j.steps) in
      let n : allowance - c.steps ≡ j.steps + k = omega arith in
      sym (ap (counted c) (rw n (run_from_lem (b.goes h) k)) ∙ counted_twice c j (steps_of main k y.state y.memories)) ∙ e

  pub ends_interrupt : a ≡ Completed true → ran Interrupt y.state (plus c j) y.memories ≡ w
  ends_interrupt h = sym (ap (counted c) (b.interrupts h)) ∙ e

  pub ends_refused : {k : ℕ} → a ≡ Refused k → ran (AnswerRefused k) y.state (plus c j) y.memories ≡ w
  ends_refused {k} h = sym (ap (counted c) (b.refuses k h)) ∙ e

  -- where the sums of the whole run fit, those up to here do
  pub sums_so_far : c.steps < allowance → SumsFit w.counts → SumsFit (plus c j)
  sums_so_far l f = go a refl
    where
      go : (o : StepAnswer) → a ≡ o → SumsFit (plus c j)
      go (Completed true) h = rw (← ends_interrupt h) at f
      go (Completed false) h =
          fit_part (plus c j) (steps_of main (allowance - (c.steps + j.steps)) y.state y.memories).counts (rw (← goes_on l h) at f)
      go (Refused k) h = rw (← ends_refused h) at f

  -- and the program's sum is exact
  pub summed : SumsFit w.counts → c.steps < allowance → {z : Counts} → z ≡ plus_modulo c j → z ≡ plus c j
  summed f l q = q ∙ plus_fits c j (sums_so_far l f)

-- ---- the payload after some of its words, and then some more

pub payload_more : (a n k w : ℕ) → payload_after (a + 4 * k) (n - k) w ≡ payload_after a n (k + w)
unfolding payload_after if
payload_more a n k w = go (leb n (k + w)) refl
  where
    go : (b : Bool) → leb n (k + w) ≡ b → if (leb (n - k) w) NoPayload (Words (a + 4 * k + 4 * w) (n - k - w)) ≡ if (leb n (k + w)) NoPayload (Words (a + 4 * (k + w)) (n - (k + w)))
    go true h =
        let l = leb-true n (k + w) h in
        rw (h, le-leb (n - k) w (omega arith))
    go false h =
        let l = leb-false n (k + w) h in
        let p : a + 4 * k + 4 * w ≡ a + 4 * (k + w) = omega arith in
        let q : n - k - w ≡ n - (k + w) = omega arith in
        rw (h, lt-leb (n - k) w (omega arith), p, q)

-- before any of them
pub payload_whole : (a n : ℕ) → (n ≡ 0 → ⊥) → payload_after a n 0 ≡ Words a n
unfolding payload_after if
payload_whole a n z = let p : a + 4 * 0 ≡ a = omega arith in rw (lt-leb n 0 (omega arith), p, sub-zero n)

-- a chain with payload pending is not done
pub pending_going : (s : State) (a n : ℕ) → s.payload ≡ Words a n → (n ≡ 0 → ⊥) → done s ≡ false
unfolding done
pending_going s a n e z = rw (e, ne_eqb n 0 z) (go s.ended (no_tags s.tags))
  where
    go : (c t : Bool) → (c && (t && false)) ≡ false
    go c t = rw (and_false t) (and_false c)

-- ---- channels 0 and 1

-- a unit that was set
picked : (which : VifUnit) (v a b : Vif) → pick_unit which (pick_unit which v a) (pick_unit which b v) ≡ v
picked Vif0 v a b = refl
picked Vif1 v a b = refl

-- set again
set_again : (which : VifUnit) (s : State) (x y : Fed) (q p : Payload)
    → with_pending (with_unit which (with_pending (with_unit which s x.unit x.path2 x.used) None q) y.unit y.path2 y.used) None p
    ≡ with_pending (with_unit which s y.unit y.path2 y.used) None p
set_again Vif0 s x y q p = refl
set_again Vif1 s x y q p = refl

-- set to what it was
set_same : (which : VifUnit) (s : State) → s ≡ with_unit which s (held_by which s) s.path2 s.used
set_same Vif0 s = refl
set_same Vif1 s = refl

-- the machine that feeds the channel's unit, with payload pending
abbrev pub feeding : State → Fed → Payload → Machine
feeding s x p = machine (with_pending (with_unit (fed_unit s) s x.unit x.path2 x.used) None p) x.memories

abbrev given_word : VifUnit → List ℕ → ℕ → Fed → VifLeft
given_word which main a x = vif_step which x.unit x.path2 (incoming_at main a) x.used x.memories

-- each step takes a word or a quadword, so they end within four times the words that were there
record FewWords (count : ℕ) (r : FedOn) : Type 0 where
  few_words : r.words ≤ 4 * count

no_words : (count : ℕ) (x : Fed) → FewWords count (fed_on x 0 no_units false)
no_words count x = record { few_words = omega arith }

module _ (which : VifUnit) (main : List ℕ) where
  answer_few : (f : ℕ → ℕ → Fed → FedOn) → ((a count : ℕ) (x : Fed) → FewWords count (f a count x))
      → (b : VifAnswer) (c : UnitCounts) (o : VifLeft) (a count : ℕ) (x : Fed) → (count ≡ 0 → ⊥) → FewWords count (after_word f b c o a count x)
  answer_few f h (Word true) c o a count x z = record { few_words = omega arith }
  answer_few f h (Word false) c o a count x z = let i = (h (a + 4) (count - 1) (fed_to o)).few_words in record { few_words = omega arith }
  answer_few f h (Quadword true d) c o a count x z = record { few_words = omega arith }
  answer_few f h (Quadword false d) c o a count x z = let i = (h (a + 16) (count - 4) (fed_to o)).few_words in record { few_words = omega arith }
  answer_few f h (VifRefused k) c o a count x z = no_words count x

  feeds_few : (n a count : ℕ) (x : Fed) → FewWords count (feeds_of which main n a count x)
  unfolding feeds_of
  feeds_few zero a count x = no_words count x
  feeds_few (suc n) a count x =
      if_ind_by (FewWords count) (eqb count 0) (λ e. no_words count x)
      (λ e. answer_few (feeds_of which main n) (feeds_few n) (given_word which main a x).answer _ (given_word which main a x) a count x (eqb-false count 0 e))

  pub words_few : (n a count : ℕ) (x : Fed) {r : FedOn} → r ≡ feed_of which main n a count x → r.words ≤ 4 * count
  unfolding feed_of
  words_few n a count x e = rw e (if_ind (FewWords count) _ (feeds_few n a count x) (no_words count x)).few_words

module _ (main : List ℕ) (s : State) (channel : s.channel ≡ 2 → ⊥) where
  -- what the step with the word at an address counts for
  abbrev word_counts : ℕ → Fed → VifAnswer → UnitCounts
  word_counts a x b = counts_in x.unit.waiting (incoming_at main a) b

  -- one step
  pub fed_step : (x : Fed) (a n : ℕ) → (n ≡ 0 → ⊥)
      → step_from main (feeding s x (Words a n))
      ≡ after_vif (fed_unit s) (given_word (fed_unit s) main a x).answer (word_counts a x (given_word (fed_unit s) main a x).answer) (given_word (fed_unit s) main a x)
      None (payload_after a n) (feeding s x (Words a n)).state x.memories
  unfolding step_of payload_step vif_given if
  fed_step x a n z = rw (ne_eqb n 0 z, ne_eqb s.channel 2 channel, picked (fed_unit s) x.unit s.vif0 s.vif1)

  -- the burst that words given to VIF1 are
  record FedBurst (n a count : ℕ) (x : Fed) (r : FedOn) : Type 0 where
    fed_burst : Burst main n (feeding s x (payload_after a count 0)) r.interrupt (of_unit r.counts) (feeding s r.after (payload_after a count r.words))

  none_fed : (n a count : ℕ) (x : Fed) → FedBurst n a count x (fed_on x 0 no_units false)
  none_fed n a count x = record { fed_burst = burst_none main n _ }

  -- a word or quadword, by the answer to it
  word_fed : (n a count : ℕ) (x : Fed) → (count ≡ 0 → ⊥) → (b : VifAnswer) → (given_word (fed_unit s) main a x).answer ≡ b
      → ((a' count' : ℕ) (y : Fed) → FedBurst n a' count' y (feeds_of (fed_unit s) main n a' count' y))
      → FedBurst (suc n) a count x (after_word (feeds_of (fed_unit s) main n) b (word_counts a x b) (given_word (fed_unit s) main a x) a count x)
  word_fed n a count x z b q f = go b q
    where
      o : VifLeft
      o = given_word (fed_unit s) main a x

      -- the step, where the answer is known
      at_word_lem : (b : VifAnswer) → o.answer ≡ b
          → step_from main (feeding s x (payload_after a count 0))
          ≡ after_vif (fed_unit s) b (word_counts a x b) o None (payload_after a count) (feeding s x (Words a count)).state x.memories
      at_word_lem b q = rw (payload_whole a count z) (fed_step x a count z ∙ rw q)

      going : done (feeding s x (payload_after a count 0)).state ≡ false
      going = pending_going _ a count (payload_whole a count z) z

      stop_after : (k : ℕ) (c : UnitCounts) {t : Machine} → t ≡ feeding s (fed_to o) (payload_after a count k)
          → step_from main (feeding s x (payload_after a count 0)) ≡ stepped (Completed true) (of_unit c) t.state t.memories
          → FedBurst (suc n) a count x (fed_on (fed_to o) k c true)
      stop_after k c w e = record { fed_burst = rw (← w) (burst_stops main n _ going e refl) }

      go_after : (k : ℕ) (c : UnitCounts) {t : Machine} → t ≡ feeding s (fed_to o) (payload_after a count k)
          → step_from main (feeding s x (payload_after a count 0)) ≡ stepped (Completed false) (of_unit c) t.state t.memories
          → FedBurst (suc n) a count x (step_more k c (feeds_of (fed_unit s) main n (a + 4 * k) (count - k) (fed_to o)))
      go_after k c w e =
          let r = feeds_of (fed_unit s) main n (a + 4 * k) (count - k) (fed_to o) in
          let i = (f (a + 4 * k) (count - k) (fed_to o)).fed_burst in
          let p = payload_more a count k 0 ∙ ap (payload_after a count) (add-zero k) in
          record { fed_burst = burst_goes main n _ going e {c = of_unit r.counts} refl (rw (w, ← payload_more a count k r.words, ← p) i) }

      again : (k : ℕ) → machine (with_pending (with_unit (fed_unit s) (feeding s x (Words a count)).state o.unit o.path2 o.used) None (payload_after a count k)) o.memories
          ≡ feeding s (fed_to o) (payload_after a count k)
      again k = ap (λ (t : State). machine t o.memories) (set_again (fed_unit s) s x (fed_to o) (Words a count) (payload_after a count k))

      go : (b : VifAnswer) → o.answer ≡ b → FedBurst (suc n) a count x (after_word (feeds_of (fed_unit s) main n) b (word_counts a x b) o a count x)
      go (Word true) q = stop_after 1 _ (again 1) (at_word_lem (Word true) q)
      go (Word false) q = go_after 1 _ (again 1) (at_word_lem (Word false) q)
      go (Quadword true c) q = stop_after 4 _ (again 4) (at_word_lem (Quadword true c) q)
      go (Quadword false c) q = go_after 4 _ (again 4) (at_word_lem (Quadword false c) q)
      go (VifRefused c) q = none_fed (suc n) a count x

  words_fed : (n a count : ℕ) (x : Fed) → FedBurst n a count x (feeds_of (fed_unit s) main n a count x)
  unfolding feeds_of
  words_fed zero a count x = none_fed 0 a count x
  words_fed (suc n) a count x =
      if_ind_by (FedBurst (suc n) a count x) (eqb count 0) (λ e. none_fed (suc n) a count x)
      (λ e. word_fed n a count x (eqb-false count 0 e) (given_word (fed_unit s) main a x).answer refl (words_fed n))

  -- whatever was tested
  pub words_burst : (n a count : ℕ) (x : Fed) {r : FedOn} → r ≡ feed_of (fed_unit s) main n a count x
      → Burst main n (feeding s x (payload_after a count 0)) r.interrupt (of_unit r.counts) (feeding s r.after (payload_after a count r.words))
  unfolding feed_of
  words_burst n a count x e = rw e (if_ind (FedBurst n a count x) _ (words_fed n a count x) (none_fed n a count x)).fed_burst

module _ {s : State} {a count : ℕ} (p : PayloadNext s a count) where
  as_feeding : (m : Lent) → machine s m ≡ feeding s (fed (held_by (fed_unit s) s) s.path2 s.used m) (payload_after a count 0)
  as_feeding m =
      rw (payload_whole a count p.some, ← p.payload, ← p.no_tags_lem)
      (ap (λ (t : State). machine (with_pending t s.tags s.payload) m) (set_same (fed_unit s) s))

  -- words that the channel's unit tested and took
  module _ (main : List ℕ) (n : ℕ) (m : Lent) {which : VifUnit} {u : Vif} (ew : which ≡ fed_unit s) (eu : u ≡ held_by which s) {v : WordsResult} {m' : Lent}
      (e : fed_on_by v m' ≡ feed_of which main n a count (fed u s.path2 s.used m)) where
    pub words_given : (s.channel ≡ 2 → ⊥) → {t : State}
        → t ≡ with_pending (with_unit which s v.unit v.path2 v.used) None (payload_after a count v.words)
        → Burst main n (machine s m) v.interrupt (of_unit v.counts) (machine t m')
    words_given c q = rw (q, ew, as_feeding m) (words_burst main s c n a count _ (rw (eu, ew) at e))

    pub words_fit : PayloadInside main s a count → a + 4 * v.words < 2 ^ 32
    words_fit i =
        let w = words_few which main n a count _ e in
        let l = i.inside in
        let h = i.most in
        omega arith

-- ---- channel 2

-- the machine that feeds path 3, with payload pending
abbrev pub drawing : State → Lent → GifFed → Payload → Machine
drawing s m x p = machine (with_pending (with_path3 s x.path x.used) None p) (lent m.mem m.code x.log)

abbrev given_quadword : List ℕ → ℕ → Path → ℕ → List ℕ → GifLeft
given_quadword main a p used log = gif_step Three p (quadword_at main a) used log

module _ (main : List ℕ) (s : State) (m : Lent) (channel : s.channel ≡ 2) where
  -- one step
  drawn_step : (x : GifFed) (a n : ℕ) → (n ≡ 0 → ⊥)
      → step_from main (drawing s m x (Words a n)) ≡ given_gif (given_quadword main a x.path x.used x.log) (payload_after a n 4) (drawing s m x (Words a n)).state (drawing s m x (Words a n)).memories
  unfolding step_of payload_step gif_given if
  drawn_step x a n z = rw (ne_eqb n 0 z, channel)

  -- the burst that quadwords given to path 3 are
  record DrawnBurst (n a count : ℕ) (p : Path) (used : ℕ) (log : List ℕ) (r : GifFed) : Type 0 where
    drawn_burst : Burst main n (drawing s m (gifFed p used log 0 0 0) (payload_after a count 0)) false (of_unit (quadwords_alone r.taken r.packets)) (drawing s m r (payload_after a count (4 * r.taken)))

  none_drawn : (n a count : ℕ) (p : Path) (used : ℕ) (log : List ℕ) (g : ℕ) → DrawnBurst n a count p used log (gifFed p used log 0 0 g)
  none_drawn n a count p used log g = record { drawn_burst = burst_none main n _ }

  -- a quadword, by the answer to it
  quadword_drawn : (n a count : ℕ) (p : Path) (used : ℕ) (log : List ℕ) (f : Path → ℕ → List ℕ → GifFed) → (count ≡ 0 → ⊥)
      → ((p' : Path) (used' : ℕ) (log' : List ℕ) → DrawnBurst n (a + 16) (count - 4) p' used' log' (f p' used' log'))
      → (b : GifAnswer) → (given_quadword main a p used log).answer ≡ b
      → DrawnBurst (suc n) a count p used log (after_quadword f b (given_quadword main a p used log) p used log)
  quadword_drawn n a count p used log f z i (Taken c) q =
      let o = given_quadword main a p used log in
      let r = f o.path o.used o.log in
      let x = drawing s m (gifFed p used log 0 0 0) (Words a count) in
      let e : 4 * suc r.taken ≡ 4 + 4 * r.taken = omega arith in
      let j : step_from main x ≡ after_gif (Taken c) o (payload_after a count 4) x.state x.memories = drawn_step (gifFed p used log 0 0 0) a count z ∙ rw q in
      record {
        drawn_burst =
            rw (payload_whole a count z, e, ← payload_more a count 4 (4 * r.taken), ← one-add r.taken)
            (burst_goes main n x (pending_going _ a count refl z) j {c = of_unit (quadwords_alone r.taken r.packets)} refl
            (rw (← payload_more a count 4 0) (i o.path o.used o.log).drawn_burst));
      }
  quadword_drawn n a count p used log f z i (GifRefused c) q = none_drawn (suc n) a count p used log c

  quadwords_drawn : (n a count : ℕ) (p : Path) (used : ℕ) (log : List ℕ) → 4 * n ≤ count → DrawnBurst n a count p used log (gifFeedsOf Three main a n p used log)
  unfolding gifFeedsOf
  quadwords_drawn zero a count p used log l = none_drawn 0 a count p used log 0
  quadwords_drawn (suc n) a count p used log l =
      quadword_drawn n a count p used log (gifFeedsOf Three main (a + 16) n) (λ z. omega arith)
      (λ p' used' log'. quadwords_drawn n (a + 16) (count - 4) p' used' log' (omega arith))
      (given_quadword main a p used log).answer
      refl

  -- whatever was tested
  pub quadwords_burst : (n a count : ℕ) (p : Path) (used : ℕ) (log : List ℕ) → 4 * n ≤ count → {r : GifFed} → r ≡ gifFeedOf Three main a n p used log
      → Burst main n (drawing s m (gifFed p used log 0 0 0) (payload_after a count 0)) false (of_unit (quadwords_alone r.taken r.packets)) (drawing s m r (payload_after a count (4 * r.taken)))
  unfolding gifFeedOf
  quadwords_burst n a count p used log l e =
      rw e (if_ind (DrawnBurst n a count p used log) _ (quadwords_drawn n a count p used log l) (none_drawn n a count p used log _)).drawn_burst

module _ {s : State} {a count : ℕ} (p : PayloadNext s a count) where
  as_drawing : (m : Lent) → machine s m ≡ drawing s m (gifFed s.path3 s.used m.log 0 0 0) (payload_after a count 0)
  as_drawing m = rw (payload_whole a count p.some, ← p.payload, ← p.no_tags_lem)

  -- quadwords that the GIF tested and took
  pub quadwords_given : (main mem code log : List ℕ) (n : ℕ) {limit : ℕ} {log' : List ℕ} (v : QuadwordsResult) → fed_by v log' ≡ gifFeedOf Three main a n s.path3 s.used log
      → s.channel ≡ 2 → (n ≤ count / 4) × (n ≤ limit)
      → {t : State} → t ≡ with_pending (with_path3 s v.path v.used) None (payload_after a count (4 * v.taken))
      → Burst main limit (machine s (lent mem code log)) false (of_unit (quadwords_alone v.taken v.packets)) (machine t (lent mem code log'))
  quadwords_given main mem code log n v e c l q =
      rw (q, as_drawing (lent mem code log))
      (let b = quadwords_burst main s (lent mem code log) c n a count s.path3 s.used log (omega arith) e in
      let f = b.few in
      burst_of (omega arith) (b.goes refl))

-- they end where the payload does
pub quadwords_fit : {main : List ℕ} {s : State} {a count : ℕ} → PayloadInside main s a count → (n : ℕ) (log : List ℕ) {log' : List ℕ} (v : QuadwordsResult)
    → fed_by v log' ≡ gifFeedOf Three main a n s.path3 s.used log → n ≤ count / 4 → a + 16 * v.taken ≤ 1048576
quadwords_fit {main} {s} {a} i n log v e l =
    let f = feed_few Three main a n s.path3 s.used log e in
    let w = i.inside in
    let h = i.most in
    omega arith

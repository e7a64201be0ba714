-- A machine that passed the entry tests passes them after each completed step.
use Rattle.std.specs.Prelude.{None, Option, Some}
use mathlib.Core.Path.{◌≡◌, refl, sym, ap, ◌∙◌}
use mathlib.Core.Bool.{Bool, true, false, not, ◌&&◌, ◌||◌, or-true}
use mathlib.Core.List.{List}
use Prim.Native.Nat.{ℕ, ◌+◌, ◌*◌, ◌-◌, ◌/◌, ◌%◌, ◌^◌, ◌<◌, ◌≤◌}
use native.Mathlib.Omega.{arith}
use borrow.Author.Tests.{leb-true, leb-false, le-leb, ltb-false, lt-ltb, eqb-true, eqb-false, eq-eqb, ne_eqb, not-false}
use lib.ListN.{length}
use lib.Dec.{eqb, leb, ltb}
use Rattle.fields.specs.declared.Counts.{Counts}
use Rattle.fields.specs.declared.UnitCounts.{UnitCounts}
use Rattle.fields.specs.Fields.{if}
use Rattle.fields.specs.Refusals.{tadr_outside, addr_unaligned, scratchpad_set, stack_full, payload_outside}
use Rattle.fields.proofs.FieldLaws.{bits_below}
use Rattle.fields.proofs.ChoiceLaws.{and_left, and_right, if_ind, if_ind_by, if_zero}
use Rattle.gif.specs.declared.GifPath.TheVariants.{Three}
use Rattle.gif.specs.GifAnswer.{GifAnswer, Taken, Refused as GifRefused}
use Rattle.gif.specs.Step.{Left as GifLeft, gif_step}
use Rattle.gif.proofs.LogLaws.{logged_length}
use Rattle.gif.proofs.RangeLaws.{log_fits}
use Rattle.gif.proofs.StepLaws.{step_ranged, step_wrote}
use Rattle.memories.specs.declared.VifUnit.{VifUnit}
use Rattle.memories.specs.declared.VifUnit.TheVariants.{Vif0, Vif1}
use Rattle.memories.specs.Lengths.{Lent}
use Rattle.vif_codes.specs.declared.Vif.{Vif}
use Rattle.vif_codes.specs.VifAnswer.{VifAnswer, Word, Quadword, Refused as VifRefused}
use Rattle.vif_codes.specs.Range.{unit_in_range}
use Rattle.vif_codes.specs.Counting.{counts_in}
use Rattle.vif.specs.Step.{Left as VifLeft}
use Rattle.vif.proofs.KeepLaws.{log_stays}
use Rattle.vif.proofs.RangeKept.{step_ready}
use Rattle.chain_state.specs.declared.Stack.{Stack}
use Rattle.chain_state.specs.declared.Stack.TheVariants.{Empty, One, Two}
use Rattle.chain_state.specs.declared.Payload.{Payload}
use Rattle.chain_state.specs.declared.Payload.TheVariants.{Nothing as NoPayload, Words}
use Rattle.chain.specs.StepAnswer.{Completed, Refused, StateStepped}
use Rattle.chain_state.specs.declared.State.{State}
use Rattle.fields.specs.Memory.{long_at, quadword_at}
use Rattle.chain_state.specs.Setters.{pick_unit, with_pending, with_unit, held_by}
use Rattle.chain.specs.Tags.{qwc_of, id_of, addr_of, spr_of, uses_addr, payload_at, after_payload, return_to, next_tadr, is_full, pushed, popped, next_stack, tag_words_of, payload_of, tag_refusal, tag_state, tag_read, tag_step}
use Rattle.vif_codes.specs.Words.{incoming_at}
use Rattle.chain_state.specs.Pending.{tags_after, payload_after}
use Rattle.chain_state.specs.Range.{channel_in_range, start_in_range, entry_in_range, stack_in_range, tag_word_in_range, tags_in_range, words_in_range, payload_in_range, tags_inside, payload_inside}
use Rattle.chain.specs.Inner.{Ready, PayloadInside}
use Rattle.chain.specs.Step.{Stepped, stepped, refused_step, stepped_by, fed_unit, after_vif, vif_took, vif_given, after_gif, gif_given, payload_step, payload_or_tag, pending_or_tag, step_of}
use Rattle.chain.proofs.ReadyLaws.{Facts, facts_of, ready_of, main_most, unit_ready, tadr_whole, payload_ready}

-- ---- a tag

-- a place for a tag: a multiple of 16 below 2^31
record Place (n : ℕ) : Type 0 where
  whole : n % 16 ≡ 0
  below : n < 2 ^ 31

-- an entry of the stack
record Entry (n : ℕ) : Type 0 where
  whole : n % 16 ≡ 0
  most : n ≤ 1048576

entry_of : (a : ℕ) → entry_in_range a ≡ true → Entry a
unfolding entry_in_range
entry_of a h = record { whole = eqb-true (a % 16) 0 (and_left _ _ h); most = leb-true a 1048576 (and_right (eqb (a % 16) 0) _ h) }

entry_held : (a : ℕ) → Entry a → entry_in_range a ≡ true
unfolding entry_in_range
entry_held a e = rw (eq-eqb (a % 16) 0 e.whole, le-leb a 1048576 e.most)

-- an accepted tag
record Accepted (size tadr id addr qwc : ℕ) (k : Stack) : Type 0 where
  tag_in : tadr + 16 ≤ size
  addr_whole : uses_addr id ≡ true → addr % 16 ≡ 0
  payload_inside_lem : (qwc ≡ 0 → ⊥) → payload_at id addr tadr + 16 * qwc ≤ size

accepted_of : (size tadr id addr : ℕ) (spr : Bool) (qwc : ℕ) (k : Stack) → tag_refusal size tadr id addr spr qwc k ≡ 0 → Accepted size tadr id addr qwc k
unfolding tag_refusal
accepted_of size tadr id addr spr qwc k h =
    let e1 = if_zero (ltb size (tadr + 16)) tadr_outside (omega arith) h in
    let e2 = if_zero (uses_addr id && not (eqb (addr % 16) 0)) addr_unaligned (omega arith) e1.1 in
    let e3 = if_zero (uses_addr id && spr) scratchpad_set (omega arith) e2.1 in
    let e4 = if_zero (eqb id 5 && is_full k) stack_full (omega arith) e3.1 in
    let e5 = if_zero (not (eqb qwc 0) && ltb size (payload_at id addr tadr + 16 * qwc)) payload_outside (omega arith) e4.1 in
    record {
      tag_in = ltb-false size (tadr + 16) e1.0;
      addr_whole = λ u. eqb-true (addr % 16) 0 (not-false _ (rw u at e2.0));
      payload_inside_lem = λ z. ltb-false size (payload_at id addr tadr + 16 * qwc) (rw (ne_eqb qwc 0 z) at e5.0);
    }

module _ (size tadr id addr qwc : ℕ) (k : Stack) (a : Accepted size tadr id addr qwc k) (few : size ≤ 1048576) (tw : tadr % 16 ≡ 0) (ab : addr < 2 ^ 31)
    (sk : stack_in_range k ≡ true) where
  uses : (n : ℕ) → id ≡ n → uses_addr n ≡ true → addr % 16 ≡ 0
  uses n e h = a.addr_whole (rw e h)

  -- the address after a payload that follows its tag
  after_in : payload_at id addr tadr ≡ tadr + 16 → Entry (after_payload tadr qwc)
  after_in e = go (eqb qwc 0) refl
    where
      go : (b : Bool) → eqb qwc 0 ≡ b → Entry (after_payload tadr qwc)
      go true w = let z = eqb-true qwc 0 w in let t = a.tag_in in record { whole = omega arith; most = omega arith }
      go false w = let i = a.payload_inside_lem (eqb-false qwc 0 w) in let i' = rw e at i in record { whole = omega arith; most = omega arith }

  place_of : {n : ℕ} → Entry n → Place n
  place_of e = let m = e.most in record { whole = e.whole; below = omega arith }

  addr_place : addr % 16 ≡ 0 → Place addr
  addr_place w = record { whole = w; below = ab }

  return_place : (j : Stack) → stack_in_range j ≡ true → Place (return_to j tadr)
  unfolding stack_in_range
  return_place Empty h = let t = a.tag_in in record { whole = tw; below = omega arith }
  return_place (One x) h = place_of (entry_of x h)
  return_place (Two x y) h = place_of (entry_of y (and_right (entry_in_range x) _ h))

  next_place : Place (next_tadr id addr tadr qwc k)
  unfolding next_tadr payload_at uses_addr if
  next_place =
      let t = a.tag_in in
      if_ind_by Place (eqb id 1) (λ e. let i = eqb-true id 1 e in place_of (after_in (rw i refl)))
      (λ e1.
      if_ind_by Place (eqb id 2 || eqb id 5) (λ e. addr_place (two_or_five e))
      (λ e2.
      if_ind_by Place (eqb id 6) (λ e. return_place k sk)
      (λ e3. if_ind_by Place (eqb id 7) (λ e. record { whole = tw; below = omega arith }) (λ e. record { whole = omega arith; below = omega arith }))))
    where
      two_or_five : (eqb id 2 || eqb id 5) ≡ true → addr % 16 ≡ 0
      two_or_five h = go (eqb id 2) refl h
        where
          go : (b : Bool) → eqb id 2 ≡ b → (b || eqb id 5) ≡ true → addr % 16 ≡ 0
          go true w h = uses 2 (eqb-true id 2 w) refl
          go false w h = uses 5 (eqb-true id 5 h) refl

  push_held : (j : Stack) → stack_in_range j ≡ true → (x : ℕ) → Entry x → stack_in_range (pushed j x) ≡ true
  unfolding stack_in_range
  push_held Empty h x e = entry_held x e
  push_held (One y) h x e = rw (h, entry_held x e)
  push_held (Two y z) h x e = h

  pop_held : (j : Stack) → stack_in_range j ≡ true → stack_in_range (popped j) ≡ true
  unfolding stack_in_range
  pop_held Empty h = refl
  pop_held (One y) h = refl
  pop_held (Two y z) h = and_left _ _ h

  stack_held : stack_in_range (next_stack id tadr qwc k) ≡ true
  unfolding next_stack payload_at if
  stack_held =
      if_ind_by (λ (j : Stack). stack_in_range j ≡ true) (eqb id 5)
      (λ e. let i = eqb-true id 5 e in push_held k sk (after_payload tadr qwc) (after_in (rw i refl)))
      (λ e. if_ind_by (λ (j : Stack). stack_in_range j ≡ true) (eqb id 6) (λ e. pop_held k sk) (λ e. sk))

  -- a payload starts at a quadword
  payload_whole : payload_at id addr tadr % 16 ≡ 0
  unfolding payload_at uses_addr
  payload_whole =
      if_ind_by (λ (n : ℕ). n % 16 ≡ 0) (eqb id 0 || (eqb id 3 || eqb id 4)) (λ e. at_addr e) (λ e. omega arith)
    where
      at_addr : (eqb id 0 || (eqb id 3 || eqb id 4)) ≡ true → addr % 16 ≡ 0
      at_addr h = go (eqb id 0) refl h
        where
          more : (b : Bool) → eqb id 3 ≡ b → (b || eqb id 4) ≡ true → addr % 16 ≡ 0
          more true w h = uses 3 (eqb-true id 3 w) refl
          more false w h = uses 4 (eqb-true id 4 h) refl

          go : (b : Bool) → eqb id 0 ≡ b → (b || (eqb id 3 || eqb id 4)) ≡ true → addr % 16 ≡ 0
          go true w h = uses 0 (eqb-true id 0 w) refl
          go false w h = more (eqb id 3) refl h

  payload_held : (channel : ℕ) → qwc ≤ 65535 → payload_in_range (payload_of (payload_at id addr tadr) qwc) channel ≡ true
  unfolding payload_of payload_in_range words_in_range
  payload_held channel q =
      let w = payload_whole in
      if_ind_by (λ (p : Payload). payload_in_range p channel ≡ true) (eqb qwc 0) (λ e. refl)
      (λ e.
      let z = eqb-false qwc 0 e in
      rw (ne_eqb (4 * qwc) 0 (λ n. z (omega arith)), eq-eqb (payload_at id addr tadr % 4) 0 (omega arith), eq-eqb (payload_at id addr tadr % 16) 0 w, or-true (not (eqb channel 2)), le-leb (4 * qwc) 262140 (omega arith), eq-eqb ((payload_at id addr tadr / 4 + 4 * qwc) % 4) 0 (omega arith)))

  payload_in_held : payload_inside (payload_of (payload_at id addr tadr) qwc) size ≡ true
  unfolding payload_of payload_inside
  payload_in_held =
      if_ind_by (λ (p : Payload). payload_inside p size ≡ true) (eqb qwc 0) (λ e. refl)
      (λ e.
      let z = eqb-false qwc 0 e in
      let i = a.payload_inside_lem z in
      rw (ne_eqb (4 * qwc) 0 (λ n. z (omega arith)), le-leb (payload_at id addr tadr + 4 * (4 * qwc)) size (omega arith)))

  tags_held : (tte : Bool) → tags_in_range (tag_words_of tte tadr) tte ≡ true
  unfolding tag_words_of tags_in_range tag_word_in_range if
  tags_held true = rw (eq-eqb ((tadr + 8) % 4) 0 (omega arith), le-leb 2 ((tadr + 8) / 4 % 4) (omega arith))
  tags_held false = refl

  tags_in_held : (tte : Bool) → tags_inside (tag_words_of tte tadr) size ≡ true
  unfolding tag_words_of tags_inside if
  tags_in_held true = let t = a.tag_in in le-leb (16 * ((tadr + 8) / 16 + 1)) size (omega arith)
  tags_in_held false = refl

-- what a completed step leaves passes the entry tests
record Stays (main : List ℕ) (x : Stepped) : Type 0 where
  stays : (i : Bool) → x.answer ≡ Completed i → Ready main x.after.state x.after.memories

pub no_completed : {n : ℕ} {i : Bool} → Refused n ≡ Completed i → ⊥
no_completed e = let z : ◌≡◌ {A = ℕ} 0 1 = cc in omega arith

refused_stays : (main : List ℕ) (n : ℕ) (s : State) (m : Lent) → Stays main (refused_step n s m)
refused_stays main n s m = record { stays = λ i e. absurd (no_completed e) }

module _ {main : List ℕ} {s : State} {m : Lent} (r : Ready main s m) where
  f : Facts main s m
  f = facts_of r

  -- a tag was read
  tag_ready : (tag : ℕ) → tag_refusal (length main) s.tadr (id_of tag) (addr_of tag) (spr_of tag) (qwc_of tag) s.stack ≡ 0
      → Ready main (tag_state (id_of tag) (addr_of tag) (qwc_of tag) s) m
  unfolding tag_state start_in_range
  tag_ready tag h =
      let a = accepted_of (length main) s.tadr (id_of tag) (addr_of tag) (spr_of tag) (qwc_of tag) s.stack h in
      let ab = bits_below tag 32 62 in
      let qb = bits_below tag 0 15 in
      let sk = f.fields.stack in
      let tw = tadr_whole r in
      let few = main_most r in
      let p = next_place (length main) s.tadr (id_of tag) (addr_of tag) (qwc_of tag) s.stack a few tw ab sk in
      let c = and_left (channel_in_range s.channel s.tte) _ f.fields.start in
      ready_of
      (record {
        size = f.size;
        fit = f.fit;
        fields =
            record {
              start = rw (c, eq-eqb _ 0 p.whole, lt-ltb _ (2 ^ 31) p.below);
              stack = stack_held (length main) s.tadr (id_of tag) (addr_of tag) (qwc_of tag) s.stack a few tw ab sk;
              tags = tags_held (length main) s.tadr (id_of tag) (addr_of tag) (qwc_of tag) s.stack a few tw ab sk s.tte;
              payload = payload_held (length main) s.tadr (id_of tag) (addr_of tag) (qwc_of tag) s.stack a few tw ab sk s.channel (omega arith);
              unit0 = f.fields.unit0;
              unit1 = f.fields.unit1;
              path2 = f.fields.path2;
              path3 = f.fields.path3;
            };
        tags_in = tags_in_held (length main) s.tadr (id_of tag) (addr_of tag) (qwc_of tag) s.stack a few tw ab sk s.tte;
        payload_in_lem = payload_in_held (length main) s.tadr (id_of tag) (addr_of tag) (qwc_of tag) s.stack a few tw ab sk;
      })

  tag_stays : Stays main (stepped_by (tag_step main s) m)
  unfolding tag_read
  tag_stays =
      if_ind_by (λ (x : StateStepped). Stays main (stepped_by x m))
      (eqb (tag_refusal (length main) s.tadr (id_of (long_at main s.tadr)) (addr_of (long_at main s.tadr)) (spr_of (long_at main s.tadr)) (qwc_of (long_at main s.tadr)) s.stack) 0)
      (λ e. record { stays = λ i q. tag_ready (long_at main s.tadr) (eqb-true _ 0 e) })
      (λ e. refused_stays main _ s m)

  -- what is pending after a step
  record Pending (t : Option ℕ) (p : Payload) : Type 0 where
    tags_ranged : tags_in_range t s.tte ≡ true
    payload_ranged : payload_in_range p s.channel ≡ true
    tags_within : tags_inside t (length main) ≡ true
    payload_within : payload_inside p (length main) ≡ true

  -- the unit that was given a word, and the other as it was
  picked0 : (which : VifUnit) (v : Vif) → unit_in_range which v ≡ true → unit_in_range Vif0 (pick_unit which v s.vif0) ≡ true
  picked0 Vif0 v h = h
  picked0 Vif1 v h = f.fields.unit0

  picked1 : (which : VifUnit) (v : Vif) → unit_in_range which v ≡ true → unit_in_range Vif1 (pick_unit which s.vif1 v) ≡ true
  picked1 Vif0 v h = f.fields.unit1
  picked1 Vif1 v h = h

  vif_stays : (a : ℕ) (t : Option ℕ) (p : ℕ → Payload) → Pending t (p 1) → Pending t (p 4) → Stays main (vif_given main a t p s m)
  unfolding vif_given
  vif_stays a t p one four = go (vif_took (fed_unit s) main a s m).answer _
    where
      o : VifLeft
      o = vif_took (fed_unit s) main a s m

      again : (q : Payload) → Pending t q → Ready main (with_pending (with_unit (fed_unit s) s o.unit o.path2 o.used) t q) o.memories
      again q w =
          let u = step_ready (fed_unit s) (held_by (fed_unit s) s) s.path2 s.used m (unit_ready r) (incoming_at main a) o refl in
          ready_of
          (record {
            size = f.size;
            fit = u.fit;
            fields =
                record {
                  start = f.fields.start;
                  stack = f.fields.stack;
                  tags = w.tags_ranged;
                  payload = w.payload_ranged;
                  unit0 = picked0 (fed_unit s) o.unit u.ranged;
                  unit1 = picked1 (fed_unit s) o.unit u.ranged;
                  path2 = u.path_ranged;
                  path3 = f.fields.path3;
                };
            tags_in = w.tags_within;
            payload_in_lem = w.payload_within;
          })

      go : (b : VifAnswer) (c : UnitCounts) → Stays main (after_vif (fed_unit s) b c o t p s m)
      go (Word i) c = record { stays = λ j e. again (p 1) one }
      go (Quadword i closed) c = record { stays = λ j e. again (p 4) four }
      go (VifRefused n) c = refused_stays main n s m

  -- tag words: word 3 follows word 2
  tags_pending : (a : ℕ) → s.tags ≡ Some a → Pending (tags_after a) s.payload
  unfolding tags_after tags_in_range tag_word_in_range tags_inside
  tags_pending a q =
      let t = rw q at f.fields.tags in
      let i = rw q at f.tags_in in
      let w = leb-true (16 * (a / 16 + 1)) (length main) i in
      let t1 = and_right s.tte _ t in
      let m4 = eqb-true (a % 4) 0 (and_left _ _ t1) in
      let two = leb-true 2 (a / 4 % 4) (and_right (eqb (a % 4) 0) _ t1) in
      record {
        tags_ranged =
            if_ind_by (λ (x : Option ℕ). tags_in_range x s.tte ≡ true) (eqb (a / 4 % 4) 3) (λ e. refl)
            (λ e.
            let z = eqb-false (a / 4 % 4) 3 e in
            rw (and_left s.tte _ t, eq-eqb ((a + 4) % 4) 0 (omega arith), le-leb 2 ((a + 4) / 4 % 4) (omega arith)));
        payload_ranged = f.fields.payload;
        tags_within =
            if_ind_by (λ (x : Option ℕ). tags_inside x (length main) ≡ true) (eqb (a / 4 % 4) 3) (λ e. refl)
            (λ e. let z = eqb-false (a / 4 % 4) 3 e in le-leb (16 * ((a + 4) / 16 + 1)) (length main) (omega arith));
        payload_within = f.payload_in_lem;
      }

  -- the payload after k of its words
  payload_pending_lem : (at n k : ℕ) → PayloadInside main s at n → (not (eqb s.channel 2) || eqb ((at + 4 * k) % 16) 0) ≡ true → Pending s.tags (payload_after at n k)
  unfolding payload_after payload_in_range words_in_range payload_inside
  payload_pending_lem at n k p c =
      let i = p.inside in
      let w = p.whole in
      let a = p.aligned in
      let l = p.few in
      record {
        tags_ranged = f.fields.tags;
        payload_ranged =
            if_ind_by (λ (x : Payload). payload_in_range x s.channel ≡ true) (leb n k) (λ e. refl)
            (λ e.
            let z = leb-false n k e in
            rw (ne_eqb (n - k) 0 (λ y. omega arith), eq-eqb ((at + 4 * k) % 4) 0 (omega arith), c, le-leb (n - k) 262140 (omega arith), eq-eqb (((at + 4 * k) / 4 + (n - k)) % 4) 0 (omega arith)));
        tags_within = f.tags_in;
        payload_within =
            if_ind_by (λ (x : Payload). payload_inside x (length main) ≡ true) (leb n k) (λ e. refl)
            (λ e. let z = leb-false n k e in rw (ne_eqb (n - k) 0 (λ y. omega arith), le-leb (at + 4 * k + 4 * (n - k)) (length main) (omega arith)));
      }

  gif_stays : (a : ℕ) (q : Payload) → Pending s.tags q → Stays main (gif_given main a q s m)
  unfolding gif_given
  gif_stays a q w = go (gif_step Three s.path3 (quadword_at main a) s.used m.log).answer
    where
      o : GifLeft
      o = gif_step Three s.path3 (quadword_at main a) s.used m.log

      go : (b : GifAnswer) → Stays main (after_gif b o q s m)
      go (Taken c) =
          let g = step_wrote Three s.path3 s.used m.log (log_fits m.log s.used f.fit.logged).holds (quadword_at main a) in
          let l : length o.log ≡ length m.log = rw g.stored (logged_length m.log s.used g.entries) in
          record {
            stays =
                λ j e.
                ready_of
                (record {
                  size = f.size;
                  fit =
                      record {
                        long = f.fit.long;
                        wide = f.fit.wide;
                        logged = log_stays s.used o.used m.log o.log f.fit.logged (record { same_length = l; room = g.room });
                      };
                  fields =
                      record {
                        start = f.fields.start;
                        stack = f.fields.stack;
                        tags = w.tags_ranged;
                        payload = w.payload_ranged;
                        unit0 = f.fields.unit0;
                        unit1 = f.fields.unit1;
                        path2 = f.fields.path2;
                        path3 = step_ranged Three s.path3 f.fields.path3 s.used m.log (quadword_at main a);
                      };
                  tags_in = w.tags_within;
                  payload_in_lem = w.payload_within;
                });
          }
      go (GifRefused n) = refused_stays main n s m

  payload_stays : (at n : ℕ) → PayloadInside main s at n → Stays main (payload_step main at n s m)
  unfolding payload_step
  payload_stays at n p =
      if_ind_by (Stays main) (eqb s.channel 2)
      (λ e.
      let q = p.quadwords (eqb-true s.channel 2 e) in
      let z : eqb ((at + 4 * 4) % 16) 0 ≡ true = eq-eqb ((at + 4 * 4) % 16) 0 (omega arith) in
      gif_stays at (payload_after at n 4) (payload_pending_lem at n 4 p (rw (z, or-true (not (eqb s.channel 2))))))
      (λ e. vif_stays at s.tags (payload_after at n) (payload_pending_lem at n 1 p (rw e)) (payload_pending_lem at n 4 p (rw e)))

  payload_or_tag_stays : (p : Payload) → s.payload ≡ p → Stays main (payload_or_tag p main s m)
  payload_or_tag_stays NoPayload q = tag_stays
  payload_or_tag_stays (Words at n) q =
      if_ind_by (Stays main) (eqb n 0) (λ e. tag_stays) (λ e. payload_stays at n (payload_ready r q (eqb-false n 0 e)))

  pending_or_tag_stays : (t : Option ℕ) → s.tags ≡ t → Stays main (pending_or_tag t s.payload main s m)
  pending_or_tag_stays None q = payload_or_tag_stays s.payload refl
  pending_or_tag_stays (Some a) q = vif_stays a (tags_after a) (λ k. s.payload) (tags_pending a q) (tags_pending a q)

  -- a machine in range stays in range
  pub step_stays : (x : Stepped) → x ≡ step_of main s m → (i : Bool) → x.answer ≡ Completed i → Ready main x.after.state x.after.memories
  unfolding step_of
  step_stays x e i q = rw e ((pending_or_tag_stays s.tags refl).stays i (ap (λ (y : Stepped). y.answer) (sym e) ∙ q))

-- ---- a refusal changes nothing and counts for nothing, a completed step is one step

record Same (s : State) (m : Lent) (x : Stepped) : Type 0 where
  same : (n : ℕ) → x.answer ≡ Refused n → x ≡ refused_step n s m
  one : (i : Bool) → x.answer ≡ Completed i → x.counts.steps ≡ 1

module _ (main : List ℕ) (s : State) (m : Lent) where
  completed_same : (i : Bool) (c : Counts) (t : State) (l : Lent) → c.steps ≡ 1 → Same s m (stepped (Completed i) c t l)
  completed_same i c t l h = record { same = λ n e. absurd (no_completed (sym e)); one = λ j e. h }

  refused_same : (k : ℕ) → Same s m (refused_step k s m)
  refused_same k =
      record {
        same = λ n e. let q : k ≡ n = cc in ap (λ (j : ℕ). refused_step j s m) q;
        one = λ i e. absurd (no_completed e);
      }

  tag_same : Same s m (stepped_by (tag_step main s) m)
  unfolding tag_read
  tag_same = if_ind (λ (x : StateStepped). Same s m (stepped_by x m)) _ (completed_same false _ _ m refl) (refused_same _)

  vif_given_same : (a : ℕ) (t : Option ℕ) (p : ℕ → Payload) → Same s m (vif_given main a t p s m)
  unfolding vif_given
  vif_given_same a t p = go (vif_took (fed_unit s) main a s m).answer
    where
      go : (b : VifAnswer)
          → Same s m (after_vif (fed_unit s) b (counts_in (held_by (fed_unit s) s).waiting (incoming_at main a) b) (vif_took (fed_unit s) main a s m) t p s m)
      go (Word i) = completed_same i _ _ _ refl
      go (Quadword i closed) = completed_same i _ _ _ refl
      go (VifRefused n) = refused_same n

  gif_given_same : (a : ℕ) (p : Payload) → Same s m (gif_given main a p s m)
  unfolding gif_given
  gif_given_same a p = go (gif_step Three s.path3 (quadword_at main a) s.used m.log).answer
    where
      go : (b : GifAnswer) → Same s m (after_gif b (gif_step Three s.path3 (quadword_at main a) s.used m.log) p s m)
      go (Taken closed) = completed_same false _ _ _ refl
      go (GifRefused n) = refused_same n

  payload_same : (p : Payload) → Same s m (payload_or_tag p main s m)
  unfolding payload_step
  payload_same NoPayload = tag_same
  payload_same (Words at n) =
      if_ind (Same s m) (eqb n 0) tag_same
      (if_ind (Same s m) (eqb s.channel 2) (gif_given_same at (payload_after at n 4)) (vif_given_same at s.tags (payload_after at n)))

  pending_same : (t : Option ℕ) (p : Payload) → Same s m (pending_or_tag t p main s m)
  pending_same None p = payload_same p
  pending_same (Some a) p = vif_given_same a (tags_after a) (λ k. s.payload)

  -- a refused step leaves the machine as it was
  pub step_same : (x : Stepped) → x ≡ step_of main s m → (n : ℕ) → x.answer ≡ Refused n → x ≡ refused_step n s m
  unfolding step_of
  step_same x e n q = e ∙ (pending_same s.tags s.payload).same n (ap (λ (y : Stepped). y.answer) (sym e) ∙ q)

  -- what a step counts for
  pub step_one : (x : Stepped) → x ≡ step_of main s m → (i : Bool) → x.answer ≡ Completed i → x.counts.steps ≡ 1
  unfolding step_of
  step_one x e i q = rw e ((pending_same s.tags s.payload).one i (ap (λ (y : Stepped). y.answer) (sym e) ∙ q))

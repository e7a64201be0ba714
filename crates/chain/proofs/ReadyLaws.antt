-- The entry tests as facts.
use Rattle.std.specs.Prelude.{None, Some}
use mathlib.Core.Path.{◌≡◌, ◌∙◌}
use mathlib.Core.Bool.{true, false, not, ◌&&◌, ◌||◌}
use mathlib.Core.List.{List}
use Prim.Native.Nat.{ℕ, ◌+◌, ◌*◌, ◌/◌, ◌%◌, ◌^◌, ◌<◌, ◌≤◌}
use native.Mathlib.Omega.{arith}
use borrow.Author.Tests.{leb-true, ltb-true, ltb-false, eqb-true, ne_eqb, not-false}
use lib.ListN.{length}
use lib.Dec.{eqb, leb}
use Rattle.fields.specs.Fields.{if}
use Rattle.fields.specs.Refusals.{main_length, out_of_range, payload_outside}
use Rattle.fields.proofs.ChoiceLaws.{if_zero, and_left, and_right, or_left, or_right}
use Rattle.gif.specs.Range.{path_in_range}
use Rattle.memories.specs.declared.VifUnit.{VifUnit}
use Rattle.memories.specs.declared.VifUnit.TheVariants.{Vif0, Vif1}
use Rattle.memories.specs.Lengths.{Lent, LengthsFit}
use Rattle.memories.proofs.LengthLaws.{fit_lengths, fit_first}
use Rattle.vif_codes.specs.Range.{unit_in_range}
use Rattle.vif.specs.Inner.{StepReady}
use Rattle.chain_state.specs.declared.Payload.{Payload}
use Rattle.chain_state.specs.declared.Payload.TheVariants.{Words}
use Rattle.chain_state.specs.declared.State.{State}
use Rattle.chain_state.specs.Range.{channel_in_range, start_in_range, stack_in_range, tags_in_range, words_in_range, payload_in_range, state_in_range, main_refused, tags_inside, payload_inside, entry_refusal}
use Rattle.chain.specs.Step.{fed_unit}
use Rattle.chain_state.specs.Setters.{held_by}
use Rattle.chain.specs.Inner.{Ready, WordInside, PayloadInside, PayloadNext}

-- the fields of a state in range
pub record Fields (s : State) : Type 0 where
  pub start : start_in_range s.channel s.tadr s.tte ≡ true
  pub stack : stack_in_range s.stack ≡ true
  pub tags : tags_in_range s.tags s.tte ≡ true
  pub payload : payload_in_range s.payload s.channel ≡ true
  pub unit0 : unit_in_range Vif0 s.vif0 ≡ true
  pub unit1 : unit_in_range Vif1 s.vif1 ≡ true
  pub path2 : path_in_range s.path2 ≡ true
  pub path3 : path_in_range s.path3 ≡ true

pub fields_of_lem : (s : State) → state_in_range s ≡ true → Fields s
unfolding state_in_range
fields_of_lem s h =
    let h1 = and_right (start_in_range s.channel s.tadr s.tte) _ h in
    let h2 = and_right (stack_in_range s.stack) _ h1 in
    let p : (tags_in_range s.tags s.tte && payload_in_range s.payload s.channel) ≡ true = and_left _ _ h2 in
    let d = and_right (tags_in_range s.tags s.tte && payload_in_range s.payload s.channel) _ h2 in
    let u : (unit_in_range Vif0 s.vif0 && unit_in_range Vif1 s.vif1) ≡ true = and_left _ _ d in
    let e = and_right (unit_in_range Vif0 s.vif0 && unit_in_range Vif1 s.vif1) _ d in
    record {
      start = and_left _ _ h;
      stack = and_left _ _ h1;
      tags = and_left _ _ p;
      payload = and_right (tags_in_range s.tags s.tte) _ p;
      unit0 = and_left _ _ u;
      unit1 = and_right (unit_in_range Vif0 s.vif0) _ u;
      path2 = and_left _ _ e;
      path3 = and_right (path_in_range s.path2) _ e;
    }

pub state_of : (s : State) → Fields s → state_in_range s ≡ true
unfolding state_in_range
state_of s f = rw (f.start, f.stack, f.tags, f.payload, f.unit0, f.unit1, f.path2, f.path3)

-- what the entry tests say
pub record Facts (main : List ℕ) (s : State) (m : Lent) : Type 0 where
  pub size : main_refused (length main) ≡ false
  pub fit : LengthsFit (fed_unit s) m s.used
  pub fields : Fields s
  pub tags_in : tags_inside s.tags (length main) ≡ true
  pub payload_in_lem : payload_inside s.payload (length main) ≡ true

pub facts_of : {main : List ℕ} {s : State} {m : Lent} → Ready main s m → Facts main s m
unfolding entry_refusal
facts_of {main} {s} {m} r =
    let e1 = if_zero (main_refused (length main)) main_length (omega arith) r.passed in
    let e2 = fit_first (fed_unit s) m s.used e1.1 in
    let e3 = if_zero (not (state_in_range s)) out_of_range (omega arith) e2.1 in
    let e4 = if_zero (not (tags_inside s.tags (length main) && payload_inside s.payload (length main))) payload_outside (omega arith) e3.1 in
    let i = not-false (tags_inside s.tags (length main) && payload_inside s.payload (length main)) e4.0 in
    record {
      size = e1.0;
      fit = e2.0;
      fields = fields_of_lem s (not-false _ e3.0);
      tags_in = and_left _ _ i;
      payload_in_lem = and_right (tags_inside s.tags (length main)) _ i;
    }

pub ready_of : {main : List ℕ} {s : State} {m : Lent} → Facts main s m → Ready main s m
unfolding entry_refusal if
ready_of {main} {s} {m} f =
    record { passed = rw (f.size, fit_lengths (fed_unit s) m s.used f.fit, state_of s f.fields, f.tags_in, f.payload_in_lem) }

module _ {main : List ℕ} {s : State} {m : Lent} (r : Ready main s m) where
  facts : Facts main s m
  facts = facts_of r

  pub main_most : length main ≤ 1048576
  unfolding main_refused
  main_most =
      let a = or_right (eqb (length main) 0) _ facts.size in
      ltb-false 1048576 (length main) (or_right (not (eqb (length main % 16) 0)) _ a)

  pub main_whole : length main % 16 ≡ 0
  unfolding main_refused
  main_whole =
      let a = or_right (eqb (length main) 0) _ facts.size in
      eqb-true (length main % 16) 0 (not-false (eqb (length main % 16) 0) (or_left _ _ a))

  -- either unit is in range
  pub held_ranged : (which : VifUnit) → unit_in_range which (held_by which s) ≡ true
  held_ranged Vif0 = facts.fields.unit0
  held_ranged Vif1 = facts.fields.unit1

  pub unit_ready : StepReady (fed_unit s) (held_by (fed_unit s) s) s.path2 s.used m
  unit_ready = record { fit = facts.fit; path_ranged = facts.fields.path2; ranged = held_ranged (fed_unit s) }

  pub tadr_below : s.tadr < 2 ^ 31
  unfolding start_in_range
  tadr_below =
      let t = and_right (channel_in_range s.channel s.tte) _ facts.fields.start in
      ltb-true s.tadr (2 ^ 31) (and_right (eqb (s.tadr % 16) 0) _ t)

  pub tadr_whole : s.tadr % 16 ≡ 0
  unfolding start_in_range
  tadr_whole =
      let t = and_right (channel_in_range s.channel s.tte) _ facts.fields.start in
      eqb-true (s.tadr % 16) 0 (and_left _ _ t)

  pub tag_word_inside : {a : ℕ} → s.tags ≡ Some a → WordInside main a
  unfolding tags_inside
  tag_word_inside {a} q =
      let i = rw q at facts.tags_in in
      record { inside = leb-true _ _ i; most = main_most }

  pub payload_ready : {at n : ℕ} → s.payload ≡ Words at n → (n ≡ 0 → ⊥) → PayloadInside main s at n
  unfolding payload_inside payload_in_range words_in_range
  payload_ready {at} {n} q z =
      let i = rw (q, ne_eqb n 0 z) at facts.payload_in_lem in
      let w = rw (q, ne_eqb n 0 z) at facts.fields.payload in
      let w1 = and_right (eqb (at % 4) 0) _ w in
      let c : (not (eqb s.channel 2) || eqb (at % 16) 0) ≡ true = and_left _ _ w1 in
      let w2 = and_right (not (eqb s.channel 2) || eqb (at % 16) 0) _ w1 in
      record {
        some = omega arith;
        few = leb-true n 262140 (and_left _ _ w2);
        aligned = eqb-true (at % 4) 0 (and_left _ _ w);
        whole = eqb-true ((at / 4 + n) % 4) 0 (and_right (leb n 262140) _ w2);
        inside = leb-true (at + 4 * n) (length main) i;
        most = main_most;
        quadwords = λ e. eqb-true (at % 16) 0 (rw e at c);
      }

  -- payload pending where no tag words are, and what its channel is
  pub payload_next : {p : Payload} → (s.tags ≡ None) × (s.payload ≡ p) → {at n : ℕ} → p ≡ Words at n → (n ≡ 0 → ⊥) → {C : Type 0} → C
      → PayloadNext s at n × (PayloadInside main s at n × C)
  payload_next f q z c =
      let e = f.1 ∙ q in
      (record { no_tags_lem = f.0; payload = e; some = z }, (payload_ready e z, c))

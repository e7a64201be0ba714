-- Words given one after another: one turn, and what the tests say.
use Rattle.std.specs.Prelude.{Result, Ok, Err}
use Rattle.std.specs.Result.{is_ok}
use Rattle.fields.specs.declared.refusals.Refusal.{Refusal}
use Rattle.fields.specs.Refusals.{refusal_in}
use Rattle.fields.proofs.RefusalLaws.{refusal_not_none}
use mathlib.Core.Path.{◌≡◌, refl, sym, ap, ◌∙◌}
use mathlib.Core.Bool.{Bool, true, false}
use mathlib.Core.List.{List}
use Prim.Native.Nat.{ℕ, zero, suc, ◌+◌, ◌*◌, ◌-◌, ◌≤◌}
use native.Mathlib.Nat.{zero-add, add-zero, add_assoc, sub-zero}
use native.Mathlib.Omega.{arith}
use borrow.Author.Tests.{ne_eqb, eqb-true, leb-true}
use lib.ListN.{length}
use lib.Dec.{eqb, leb}
use Rattle.fields.specs.declared.UnitCounts.{UnitCounts}
use Rattle.fields.specs.Counts.{no_units, plus_units, Counted}
use Rattle.fields.proofs.CountLaws.{plus_units_none, none_plus_units, plus_plus_units, counted_none, counted_word, counted_quadword, counted_plus}
use Rattle.fields.specs.Fields.{if}
use Rattle.fields.specs.Memory.{inside}
use Rattle.fields.proofs.ChoiceLaws.{and_left, and_right}
use Rattle.gif.specs.declared.Path.{Path}
use Rattle.gif.proofs.FeedLaws.{inside_most}
use Rattle.gif.proofs.RangeLaws.{log_fits}
use Rattle.memories.specs.declared.VifUnit.{VifUnit}
use Rattle.memories.specs.Lengths.{Lent, lengths_refusal}
use Rattle.memories.proofs.LengthLaws.{lengths_fit}
use Rattle.vif_codes.specs.declared.Incoming.{Incoming}
use Rattle.vif_codes.specs.declared.Waiting.{Waiting}
use Rattle.vif_codes.specs.declared.Vif.{Vif}
use Rattle.vif_codes.specs.VifAnswer.{VifAnswer, Word, Quadword, Refused}
use Rattle.vif_codes.specs.Range.{unit_in_range}
use Rattle.vif_codes.specs.Words.{incoming_at, word_in}
use Rattle.vif_codes.specs.Counting.{nop_in, counts_in}
use Rattle.vif.specs.declared.WordsResult.{WordsResult}
use Rattle.vif.specs.Step.{Left, words_taken, vif_step}
use Rattle.vif.specs.Feeds.{Fed, fed}
use Rattle.vif.specs.Feed.{FedOn, fed_on, fed_on_by, fed_to, step_more, after_word, on_word, feeds_of, words_inside, takes_steps}
use Rattle.vif.specs.Inner.{plus, FedReady, Leads, fed_in, rest_of, Going, Gives, taken_with}
use Rattle.vif.proofs.KeepLaws.{step_kept}
use Rattle.vif.proofs.RangeKept.{step_ready}

-- whether an answer completed a code with its interrupt bit
abbrev pub interrupt_in : VifAnswer → Bool
interrupt_in (Word i) = i
interrupt_in (Quadword i c) = i
interrupt_in (Refused n) = false

-- a step that is taken is one
module _ (w : Waiting) (n : Incoming) where
  taken_one : (b : VifAnswer) → (words_taken b ≡ 0 → ⊥) → (counts_in w n b).steps ≡ 1
  taken_one (Word i) z = refl
  taken_one (Quadword i c) z = refl
  taken_one (Refused k) z = absurd (z refl)

  pub taken_most : (b : VifAnswer) → (counts_in w n b).steps ≤ 1
  taken_most (Word i) = omega arith
  taken_most (Quadword i c) = omega arith
  taken_most (Refused k) = omega arith

  pub taken_counted : (b : VifAnswer) → Counted (counts_in w n b)
  taken_counted (Word i) = counted_word (nop_in w (word_in n))
  taken_counted (Quadword i c) = counted_quadword c
  taken_counted (Refused k) = counted_none

-- nothing more is taken
plus_nothing : (k : ℕ) (c : UnitCounts) (x : Fed) → plus k c (fed_on x 0 no_units false) ≡ fed_on x k c false
plus_nothing k c x = rw (add-zero k) (ap (λ (d : UnitCounts). fed_on x k d false) (plus_units_none c))

-- nothing before
nothing_plus : (r : FedOn) → plus 0 no_units r ≡ r
nothing_plus r = rw (zero-add r.words) (ap (λ (d : UnitCounts). fed_on r.after r.words d r.interrupt) (none_plus_units r.counts))

-- words, and then more of them
plus_twice : (k j : ℕ) (c d : UnitCounts) (r : FedOn) → plus k c (plus j d r) ≡ plus (k + j) (plus_units c d) r
plus_twice k j c d r =
    rw (add_assoc k j r.words)
    (ap (λ (e : UnitCounts). fed_on r.after (k + (j + r.words)) e r.interrupt) (sym (plus_plus_units c d r.counts)))

-- ---- by a step's answer and what it counts for

module _ (f : ℕ → ℕ → Fed → FedOn) (c : UnitCounts) (o : Left) (a count : ℕ) (x : Fed) where
  taken_goes : (b : VifAnswer) {k : ℕ} → k ≡ words_taken b → (k ≡ 0 → ⊥) → interrupt_in b ≡ false
      → after_word f b c o a count x ≡ step_more k c (f (a + 4 * k) (count - k) (fed_to o))
  taken_goes (Word true) e z i = absurd (let y : ◌≡◌ {A = ℕ} 0 1 = cc in omega arith)
  taken_goes (Word false) e z i = rw e
  taken_goes (Quadword true d) e z i = absurd (let y : ◌≡◌ {A = ℕ} 0 1 = cc in omega arith)
  taken_goes (Quadword false d) e z i = rw e
  taken_goes (Refused n) e z i = absurd (z e)

  taken_interrupts : (b : VifAnswer) {k : ℕ} → k ≡ words_taken b → interrupt_in b ≡ true → after_word f b c o a count x ≡ fed_on (fed_to o) k c true
  taken_interrupts (Word true) e i = rw e
  taken_interrupts (Word false) e i = absurd (let y : ◌≡◌ {A = ℕ} 0 1 = cc in omega arith)
  taken_interrupts (Quadword true d) e i = rw e
  taken_interrupts (Quadword false d) e i = absurd (let y : ◌≡◌ {A = ℕ} 0 1 = cc in omega arith)
  taken_interrupts (Refused n) e i = absurd (let y : ◌≡◌ {A = ℕ} 0 1 = cc in omega arith)

  taken_none : (b : VifAnswer) → words_taken b ≡ 0 → after_word f b c o a count x ≡ fed_on x 0 no_units false
  taken_none (Word true) e = absurd (omega arith)
  taken_none (Word false) e = absurd (omega arith)
  taken_none (Quadword true d) e = absurd (omega arith)
  taken_none (Quadword false d) e = absurd (omega arith)
  taken_none (Refused n) e = refl

-- a step that took no word changed nothing
pub untaken : (which : VifUnit) (x : Fed) → FedReady which x
    → (next : Incoming) {o : Left} → o ≡ vif_step which x.unit x.path2 next x.used x.memories
    → words_taken o.answer ≡ 0 → o.memories ≡ x.memories
untaken which x r next {o} e = go o.answer refl
  where
    go : (b : VifAnswer) → o.answer ≡ b → words_taken b ≡ 0 → o.memories ≡ x.memories
    go (Word i) q z = absurd (omega arith)
    go (Quadword i c) q z = absurd (omega arith)
    go (Refused n) q z =
        let k = step_kept which x.unit x.path2 x.used x.memories (log_fits x.memories.log x.used r.fit.logged).holds next in
        ap (λ (y : Left). y.memories) (e ∙ k.same n (ap (λ (y : Left). y.answer) (sym e) ∙ q))

-- ---- a turn

module _ (which : VifUnit) (main : List ℕ) (a count : ℕ) (x : Fed) where
  feeds_out : (n : ℕ) → n ≡ 0 → feeds_of which main n a count x ≡ fed_on x 0 no_units false
  unfolding feeds_of
  feeds_out n z = rw z

  feeds_none : (n : ℕ) → count ≡ 0 → feeds_of which main n a count x ≡ fed_on x 0 no_units false
  unfolding feeds_of if
  feeds_none zero z = refl
  feeds_none (suc n) z = rw z

  one_turn : (n n' : ℕ) → n ≡ suc n' → (count ≡ 0 → ⊥) → {o : Left} → o ≡ vif_step which x.unit x.path2 (incoming_at main a) x.used x.memories
      → feeds_of which main n a count x ≡ on_word (feeds_of which main n') (incoming_at main a) o a count x
  unfolding feeds_of if
  one_turn n n' z h e = rw (z, ne_eqb count 0 h, ← e)

-- ---- steps one after another

pub leads_none : {which : VifUnit} {main : List ℕ} {a : ℕ} {x : Fed} → Leads which main a 0 no_units x x
leads_none {which} {main} {a} {x} =
    record {
      goes = λ l d. rw (zero-add l, zero-add d, add-zero a) (sym (nothing_plus (feeds_of which main l a d x)));
      stays = λ r. r;
    }

-- a step
pub leads_one : {which : VifUnit} {main : List ℕ} {a k : ℕ} {x : Fed} {o : Left} → o ≡ vif_step which x.unit x.path2 (incoming_at main a) x.used x.memories
    → k ≡ words_taken o.answer → (k ≡ 0 → ⊥) → interrupt_in o.answer ≡ false
    → Leads which main a k (counts_in x.unit.waiting (incoming_at main a) o.answer) x (fed_to o)
leads_one {which} {main} {a} {k} {x} {o} e t z q =
    let c = counts_in x.unit.waiting (incoming_at main a) o.answer in
    record {
      goes =
          λ l d.
          let f : k + d - k ≡ d = omega arith in
          let n = taken_one x.unit.waiting (incoming_at main a) o.answer (λ y. z (t ∙ y)) in
          one_turn which main a (k + d) x (c.steps + l) l (omega arith) (λ y. z (omega arith)) e
          ∙ taken_goes (feeds_of which main l) c o a (k + d) x o.answer t z q
          ∙ rw f;
      stays = λ r. step_ready which x.unit x.path2 x.used x.memories r (incoming_at main a) o e;
    }

-- steps, and then more of them
pub leads_then : {which : VifUnit} {main : List ℕ} {a k j : ℕ} {c d : UnitCounts} {x y z : Fed} → Leads which main a k c x y → Leads which main (a + 4 * k) j d y z
    → Leads which main a (k + j) (plus_units c d) x z
leads_then {which} {main} {a} {k} {j} {c} {d} {x} {y} {z} p q =
    record {
      goes =
          λ l n.
          let b : a + 4 * k + 4 * j ≡ a + 4 * (k + j) = omega arith in
          rw (add_assoc c.steps d.steps l, add_assoc k j n)
          (p.goes (d.steps + l) (j + n) ∙ ap (plus k c) (q.goes l n) ∙ rw b (plus_twice k j c d (feeds_of which main l (a + 4 * (k + j)) n z)));
      stays = λ r. q.stays (p.stays r);
    }

-- ---- what is left, with the words and steps of s taken

module _ (which : VifUnit) (main : List ℕ) (limit a count : ℕ) (s : WordsResult) (m : Lent) where
  -- no step or no word is left
  pub rest_out : s.interrupt ≡ false → limit ≤ s.counts.steps → rest_of which main limit a count s m ≡ fed_on_by s m
  rest_out q l =
      let z : limit - s.counts.steps ≡ 0 = omega arith in
      ap (plus s.words s.counts) (feeds_out which main (a + 4 * s.words) (count - s.words) (fed_in s m) (limit - s.counts.steps) z)
      ∙ plus_nothing s.words s.counts (fed_in s m)
      ∙ rw q

  pub rest_used : s.interrupt ≡ false → count ≤ s.words → rest_of which main limit a count s m ≡ fed_on_by s m
  rest_used q l =
      let z : count - s.words ≡ 0 = omega arith in
      ap (plus s.words s.counts) (feeds_none which main (a + 4 * s.words) (count - s.words) (fed_in s m) (limit - s.counts.steps) z)
      ∙ plus_nothing s.words s.counts (fed_in s m)
      ∙ rw q

  -- steps at once
  pub rest_leads : {k : ℕ} {c : UnitCounts} {y : Fed} → Leads which main (a + 4 * s.words) k c (fed_in s m) y → k ≤ count - s.words → c.steps ≤ limit - s.counts.steps
      → (i : Bool)
      → rest_of which main limit a count s m ≡ rest_of which main limit a count (taken_with y.unit y.path2 y.used (s.words + k) (plus_units s.counts c) i) y.memories
  rest_leads {k} {c} {y} p h l i =
      let n = s.counts.steps + c.steps in
      let e : count - s.words ≡ k + (count - (s.words + k)) = omega arith in
      let d : limit - s.counts.steps ≡ c.steps + (limit - n) = omega arith in
      let b : a + 4 * s.words + 4 * k ≡ a + 4 * (s.words + k) = omega arith in
      rw (e, d)
      (ap (plus s.words s.counts) (p.goes (limit - n) (count - (s.words + k)))
      ∙ rw b (plus_twice s.words k s.counts c (feeds_of which main (limit - n) (a + 4 * (s.words + k)) (count - (s.words + k)) y)))

  -- one step
  module _ (g : Going limit a count s) {o : Left} (e : o ≡ vif_step which s.unit s.path2 (incoming_at main (a + 4 * s.words)) s.used m) where
    -- what it counts for
    abbrev counting : UnitCounts
    counting = counts_in s.unit.waiting (incoming_at main (a + 4 * s.words)) o.answer

    turns : rest_of which main limit a count s m
        ≡ plus s.words s.counts
        (after_word (feeds_of which main (limit - (s.counts.steps + 1))) o.answer counting o (a + 4 * s.words) (count - s.words) (fed_in s m))
    turns =
        let l = g.few_steps in
        let h = g.few_words in
        ap (plus s.words s.counts)
        (one_turn which main (a + 4 * s.words) (count - s.words) (fed_in s m) (limit - s.counts.steps) (limit - (s.counts.steps + 1)) (omega arith) (λ z. omega arith) e)

    pub rest_goes : {k : ℕ} → k ≡ words_taken o.answer → (k ≡ 0 → ⊥) → interrupt_in o.answer ≡ false
        → (i : Bool)
        → rest_of which main limit a count s m ≡ rest_of which main limit a count (taken_with o.unit o.path2 o.used (s.words + k) (plus_units s.counts counting) i) o.memories
    rest_goes {k} t z q i =
        let n = taken_one s.unit.waiting (incoming_at main (a + 4 * s.words)) o.answer (λ y. z (t ∙ y)) in
        let l = limit - (s.counts.steps + counting.steps) in
        let e : limit - (s.counts.steps + 1) ≡ l = omega arith in
        let j = taken_goes (feeds_of which main (limit - (s.counts.steps + 1))) counting o (a + 4 * s.words) (count - s.words) (fed_in s m) o.answer t z q in
        let c : a + 4 * s.words + 4 * k ≡ a + 4 * (s.words + k) = omega arith in
        let d : count - s.words - k ≡ count - (s.words + k) = omega arith in
        turns
        ∙ ap (plus s.words s.counts) j
        ∙ rw (c, d, e)
        (plus_twice s.words k s.counts counting (feeds_of which main l (a + 4 * (s.words + k)) (count - (s.words + k)) (fed_to o)))

    pub rest_interrupts : {k : ℕ} → k ≡ words_taken o.answer → interrupt_in o.answer ≡ true
        → rest_of which main limit a count s m ≡ fed_on (fed_to o) (s.words + k) (plus_units s.counts counting) true
    rest_interrupts t q =
        turns ∙ ap (plus s.words s.counts) (taken_interrupts (feeds_of which main (limit - (s.counts.steps + 1))) counting o (a + 4 * s.words) (count - s.words) (fed_in s m) o.answer t q)

    pub rest_refused : words_taken o.answer ≡ 0 → FedReady which (fed_in s m) → rest_of which main limit a count s m ≡ fed_on_by s o.memories
    rest_refused z r =
        rw (untaken which (fed_in s m) r (incoming_at main (a + 4 * s.words)) e z, g.quiet)
        (turns
        ∙ ap (plus s.words s.counts) (taken_none (feeds_of which main (limit - (s.counts.steps + 1))) counting o (a + 4 * s.words) (count - s.words) (fed_in s m) o.answer z)
        ∙ plus_nothing s.words s.counts (fed_in s m))

-- a step given to the unit
module _ (which : VifUnit) (main : List ℕ) (a : ℕ) (s : WordsResult) (m : Lent) (r : FedReady which (fed_in s m)) {next : Incoming} (g : next ≡ incoming_at main (a + 4 * s.words))
    {o : Left} (e : o ≡ vif_step which s.unit s.path2 next s.used m) where
  given : o ≡ vif_step which s.unit s.path2 (incoming_at main (a + 4 * s.words)) s.used m
  given = rw g at e

  pub gives_taken : {b : VifAnswer} {k : ℕ} {c : UnitCounts} {i : Bool} {t : WordsResult} → o.answer ≡ b → words_taken b ≡ k → interrupt_in b ≡ i → 1 ≤ k
      → Counted s.counts → c ≡ plus_units s.counts (counts_in s.unit.waiting next o.answer)
      → t ≡ taken_with o.unit o.path2 o.used (s.words + k) c i → Gives which main a s m t o.memories
  gives_taken {b} {k} {c} {i} q w j l h x f =
      let t : k ≡ words_taken o.answer = rw q (sym w) in
      let n : interrupt_in o.answer ≡ i = rw q j in
      let one = taken_one s.unit.waiting (incoming_at main (a + 4 * s.words)) o.answer (λ y. omega arith) in
      let d = taken_counted s.unit.waiting (incoming_at main (a + 4 * s.words)) o.answer in
      rw (f, x, g)
      (record {
        ready = step_ready which s.unit s.path2 s.used m r next o e;
        later = omega arith;
        counted = counted_plus h d;
        goes = λ limit count c z. rest_goes which main limit a count s m c given t (λ y. omega arith) (n ∙ z) i;
        stops = λ limit count c z. rest_interrupts which main limit a count s m c given t (n ∙ z) ∙ rw z;
        refuses = λ limit count c z. absurd (omega arith);
      })

  pub gives_refused : {n : ℕ} → o.answer ≡ Refused n → Counted s.counts → Gives which main a s m s o.memories
  gives_refused q h =
      let z : words_taken o.answer ≡ 0 = rw q in
      let u : o.memories ≡ m = untaken which (fed_in s m) r next e z in
      record {
        ready = rw u r;
        later = omega arith;
        counted = h;
        goes = λ limit count c y. rw u;
        stops = λ limit count c y. absurd (let h : ◌≡◌ {A = ℕ} 0 1 = cc c.quiet in omega arith);
        refuses = λ limit count c y. rest_refused which main limit a count s m c given z r;
      }

-- before the first word all of them are left
pub rest_begins : (which : VifUnit) (main : List ℕ) (limit a count : ℕ) (s : WordsResult) (m : Lent) → s.words ≡ 0 → s.counts ≡ no_units
    → rest_of which main limit a count s m ≡ feeds_of which main limit a count (fed_in s m)
rest_begins which main limit a count s m h l = rw (h, l, sub-zero limit, sub-zero count, add-zero a) (nothing_plus (feeds_of which main limit a count (fed_in s m)))

-- where all of them end
pub rest_ends : (which : VifUnit) (main : List ℕ) (limit a count : ℕ) (m : Lent) {used : ℕ} {v : Vif} {p : Path} {s : WordsResult} {w y : FedOn} → s ≡ taken_with v p used 0 no_units false
    → w ≡ feeds_of which main limit a count (fed_in s m) → w ≡ y → y ≡ feeds_of which main limit a count (fed v p used m)
rest_ends which main limit a count m e i h = sym h ∙ i ∙ rw e

-- ---- the tests

pub words_few : (main : List ℕ) (a count : ℕ) → words_inside main a count ≡ true → a + 4 * count ≤ 1048576
unfolding words_inside
words_few main a count h = inside_most main a (4 * count) (and_left _ _ h)

pub words_lie : (main : List ℕ) (a count : ℕ) → words_inside main a count ≡ true → a + 4 * count ≤ length main
unfolding words_inside inside
words_lie main a count h = leb-true (a + 4 * count) (length main) (and_right (leb (length main) 1048576) _ (and_left _ _ h))

-- the lengths' test, and its number
pub lengths_ok : (r : Result (Unit {0}) Refusal) {n : ℕ} → refusal_in r ≡ n → eqb n 0 ≡ is_ok r
lengths_ok (Ok x) e = rw (← e)
lengths_ok (Err x) e = rw (← e) (refusal_not_none x)

pub takes_ready : (which : VifUnit) (x : Fed) → takes_steps which x ≡ true → FedReady which x
unfolding takes_steps
takes_ready which x h =
    let n = lengths_refusal which x.memories x.used in
    let t = and_right (eqb n 0) _ h in
    record {
      fit = lengths_fit which x.memories x.used (eqb-true n 0 (and_left _ _ h));
      path_ranged = and_right (unit_in_range which x.unit) _ t;
      ranged = and_left _ _ t;
    }

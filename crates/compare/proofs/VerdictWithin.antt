-- What the comparison says of two boards in a range of quadwords; "same" holds exactly if the words of these quadwords, and all else that is asked for, are equal.
use mathlib.Core.Path.{◌≡◌, refl, ap, ◌∙◌}
use mathlib.Core.Bool.{Bool, true, false, ◌||◌}
use mathlib.Core.Logic.{◌↔◌}
use mathlib.Core.List.{List}
use Prim.Native.Nat.{ℕ, ◌+◌, ◌*◌, ◌-◌}
use native.Mathlib.Omega.{arith}
use lib.ListN.{drop, length-drop}
use borrow.Author.Tests.{le-ltb, lt-leb, leb-false}
use Rattle.fields.specs.Fields.{if}
use Rattle.fields.specs.Refusals.{out_of_range}
use Rattle.fields.proofs.ChoiceLaws.{if_ind_by, or_later}
use Rattle.memories.specs.declared.VifUnit.{VifUnit}
use Rattle.memories.specs.declared.VifUnit.TheVariants.{Vif0, Vif1}
use Rattle.memories.specs.Units.{quadwords}
use Rattle.compare.specs.declared.Comparison.{Comparison}
use Rattle.compare.specs.CompareAnswer.{CompareAnswer, Compared, Refused}
use Rattle.compare.specs.Elements.{found, found_in, found_from}
use Rattle.compare.specs.Parts.{data_part, code_part, log_part, asks, Asked}
use Rattle.compare.specs.Boards.{Board, memories_of, found_of, compare_of, comparison_of, same_of}
use Rattle.compare.specs.Within.{range_size, within, beyond, range_refused, quadwords_within, comparison_within, answer_within, compare_within}
use Rattle.compare.specs.Equal.{InRange, RangeOf, Whole, EqualEntries, EqualWithin, EqualTo, Says}
use Rattle.compare.specs.Inner.{Inside, RangeFits}
use Rattle.compare.proofs.TestLaws.{never}
use Rattle.compare.proofs.ListLaws.{found_says}
use Rattle.compare.proofs.LengthLaws.{asked_passed, passed_asked}
use Rattle.compare.proofs.Verdict.{whole_compared, compared_whole, same_none, none_same, code_equal, log_equal}
use Rattle.compare.proofs.WithinLaws.{range_passed, range_fits, range_inside}

-- ---- which are compared: a range of the data memories that are asked for and boards that are whole in the parts, and no others

asked_one : (p q : Bool) (P : VifUnit → Bool) → P Vif1 ≡ p → P Vif0 ≡ q → (p || q) ≡ true → (u : VifUnit) × (P u ≡ true)
asked_one true q P e d h = (Vif1, e)
asked_one false q P e d h = (Vif0, d ∙ h)

one_asked : (P : VifUnit → Bool) (u : VifUnit) → P u ≡ true → (P Vif1 || P Vif0) ≡ true
one_asked P Vif1 h = rw h
one_asked P Vif0 h = or_later (P Vif1) _ h

module _ (parts first last : ℕ) where
  passed_range : range_refused parts first last ≡ false → RangeOf parts first last
  unfolding beyond
  passed_range h =
      let r = range_passed parts first last h in
      record {
        order = r.order;
        some = asked_one (asks parts (data_part Vif1)) (asks parts (data_part Vif0)) (λ (u : VifUnit). asks parts (data_part u)) refl refl r.some;
        inside = λ u t. leb-false (quadwords u) last (asked_passed (r.inside u) t);
      }

  range_inside_of : RangeOf parts first last → (u : VifUnit) → beyond parts u last ≡ false
  unfolding beyond
  range_inside_of r u = passed_asked (asks parts (data_part u)) (λ t. lt-leb (quadwords u) last (r.inside u t))

  range_accepted : RangeOf parts first last → range_refused parts first last ≡ false
  unfolding range_refused
  range_accepted r =
      let k : (asks parts (data_part Vif1) || asks parts (data_part Vif0)) ≡ true =
      one_asked (λ (u : VifUnit). asks parts (data_part u)) r.some.0 r.some.1 in
      rw (le-ltb last first r.order, k, range_inside_of r Vif1, range_inside_of r Vif0)

  pub no_range : (a b : Board) → (RangeOf parts first last → ⊥) → compare_within parts first last a b ≡ Refused out_of_range
  unfolding compare_within
  no_range a b n =
      if_ind_by (λ (x : CompareAnswer). x ≡ Refused out_of_range) (range_refused parts first last) (λ t. refl) (λ f. absurd (n (passed_range f)))

  pub range_whole : (a b : Board) → InRange parts → RangeOf parts first last → Whole parts a → Whole parts b
      → compare_within parts first last a b ≡ Compared (comparison_within parts first last a b (comparison_of parts a b))
  unfolding compare_within if
  range_whole a b i r v w = rw (range_accepted r, whole_compared parts a b i v w)

-- ---- one unit

module _ (first n : ℕ) (a b : List ℕ) (p : Inside (4 * (first + n)) a b) where
  dropped_inside : Inside (4 * n) (drop (4 * first) a) (drop (4 * first) b)
  dropped_inside =
      let x = length-drop (4 * first) a in
      let y = length-drop (4 * first) b in
      let s = p.small in
      let l = p.left in
      let r = p.right in
      record { small = omega arith; left = omega arith; right = omega arith }

  -- counted from the range's first quadword
  pub found_from_says : Says 4 (drop (4 * first) a) (drop (4 * first) b) n (found ((found_from 4 first a b n).first - first) (found_from 4 first a b n).count)
  unfolding found_from
  found_from_says =
      let f = found_in 4 (drop (4 * first) a) (drop (4 * first) b) n in
      let e : first + f.first - first ≡ f.first = omega arith in
      rw e (found_says 4 (drop (4 * first) a) (drop (4 * first) b) n (omega arith) dropped_inside)

range_equal : (asked : Bool) (first n : ℕ) (a b : List ℕ) → (asked ≡ true → Inside (4 * (first + n)) a b)
    → ((if asked (found_from 4 first a b n) (found 0 0)).count ≡ 0) ↔ (asked ≡ true → EqualTo 4 (drop (4 * first) a) (drop (4 * first) b) n)
unfolding if
range_equal true first n a b p =
    let s = (found_from_says first n a b (p refl)).none in
    (λ z t. s.0 z, λ h. s.1 (h refl))
range_equal false first n a b p = (λ z t. absurd (never t refl), λ h. refl)

-- ---- both boards

module _ (parts first last : ℕ) (a b : Board) (c : Comparison) where
  whole_of : (x : CompareAnswer) → answer_within parts first last a b x ≡ Compared c
      → (w : Comparison) × ((x ≡ Compared w) × (c ≡ comparison_within parts first last a b w))
  whole_of (Compared w) q = (w, (refl, cc))
  whole_of (Refused n) q = absurd (let z : ◌≡◌ {A = ℕ} 0 1 = cc in omega arith)

  unit_quadwords : (u : VifUnit) (w : Comparison)
      → (found_of u (comparison_within parts first last a b w)).quadwords ≡ quadwords_within parts u first last (memories_of u a).mem (memories_of u b).mem
  unfolding comparison_within
  unit_quadwords Vif1 w = refl
  unit_quadwords Vif0 w = refl

  unit_instructions : (u : VifUnit) (w : Comparison) → (found_of u (comparison_within parts first last a b w)).instructions ≡ (found_of u w).instructions
  unfolding comparison_within
  unit_instructions Vif1 w = refl
  unit_instructions Vif0 w = refl

  module _ (e : compare_within parts first last a b ≡ Compared c) where
    compared_within : (range_refused parts first last ≡ false) × (answer_within parts first last a b (compare_of parts a b) ≡ Compared c)
    unfolding compare_within
    compared_within =
        if_ind_by
        (λ (r : CompareAnswer). r ≡ Compared c → (range_refused parts first last ≡ false) × (answer_within parts first last a b (compare_of parts a b) ≡ Compared c))
        (range_refused parts first last) (λ t q. absurd (let z : ◌≡◌ {A = ℕ} 0 1 = cc in omega arith)) (λ f q. (f, q))
        e

    -- the comparison without a range
    whole : (w : Comparison) × ((compare_of parts a b ≡ Compared w) × (c ≡ comparison_within parts first last a b w))
    whole = whole_of (compare_of parts a b) compared_within.1

    fits : (u : VifUnit) → RangeFits parts u first last (memories_of u a).mem (memories_of u b).mem
    fits = range_fits parts first last a b refl compared_within.0 refl whole.1.0

    module _ (u : VifUnit) where
      quadwords_are : (found_of u c).quadwords ≡ quadwords_within parts u first last (memories_of u a).mem (memories_of u b).mem
      quadwords_are = ap (λ (k : Comparison). (found_of u k).quadwords) whole.1.1 ∙ unit_quadwords u whole.0

      instructions_are : (found_of u c).instructions ≡ (found_of u whole.0).instructions
      instructions_are = ap (λ (k : Comparison). (found_of u k).instructions) whole.1.1 ∙ unit_instructions u whole.0

      range_of : Asked parts (data_part u) → Inside (4 * (first + range_size first last)) (memories_of u a).mem (memories_of u b).mem
      range_of = range_inside parts u first last (fits u) refl refl

      -- which quadword of the range differs first, and whether one does
      pub quadwords_within_say : Asked parts (data_part u)
          → Says 4 (drop (4 * first) (memories_of u a).mem) (drop (4 * first) (memories_of u b).mem) (range_size first last)
          (found ((found_of u c).quadwords.first - first) (found_of u c).quadwords.count)
      unfolding quadwords_within if
      quadwords_within_say t = rw (quadwords_are, t) (found_from_says first (range_size first last) (memories_of u a).mem (memories_of u b).mem (range_of t))

      within_equal : ((found_of u c).quadwords.count ≡ 0)
          ↔ (Asked parts (data_part u) → within first last (memories_of u a).mem ≡ within first last (memories_of u b).mem)
      unfolding quadwords_within
      within_equal =
          rw quadwords_are (range_equal (asks parts (data_part u)) first (range_size first last) (memories_of u a).mem (memories_of u b).mem range_of)

      code_within : ((found_of u c).instructions.count ≡ 0) ↔ (Asked parts (code_part u) → (memories_of u a).code ≡ (memories_of u b).code)
      code_within = rw instructions_are (code_equal parts a b whole.0 whole.1.0 u)

    log_within : ((c.entries.count ≡ 0) × (c.used.first ≡ c.used.second)) ↔ (Asked parts log_part → EqualEntries a b)
    unfolding comparison_within
    log_within = rw whole.1.1 (log_equal parts a b whole.0 whole.1.0)

    pub compared_range : RangeOf parts first last
    compared_range = passed_range parts first last compared_within.0

    pub compared_whole_within : Whole parts a × Whole parts b
    compared_whole_within = compared_whole parts a b whole.0 whole.1.0

    pub verdict_within : (same_of c ≡ true) ↔ EqualWithin parts first last a b
    verdict_within = (
      λ h.
          let n = same_none c h in
          record {
            mem = λ u. (within_equal u).0 (n.quadwords u);
            code = λ u. (code_within u).0 (n.instructions u);
            log = log_within.0 (n.entries, n.used);
          },
      λ h.
          let l = log_within.1 h.log in
          none_same c
          (record {
            quadwords = λ u. (within_equal u).1 (h.mem u);
            instructions = λ u. (code_within u).1 (h.code u);
            entries = l.0;
            used = l.1;
          }),
    )

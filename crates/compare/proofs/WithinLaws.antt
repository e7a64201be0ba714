-- The comparison in a range of quadwords.
use mathlib.Core.Path.{◌≡◌, sym, ◌∙◌}
use mathlib.Core.Bool.{Bool, true, false, not, ◌||◌}
use mathlib.Core.List.{List}
use Prim.Native.Nat.{ℕ, ◌+◌, ◌*◌, ◌-◌, ◌<◌, ◌≤◌}
use native.Mathlib.Omega.{arith}
use lib.ListN.{length, take, drop, length-drop}
use lib.Seq.{take_all}
use lib.Dec.{ltb}
use borrow.Author.Tests.{leb-false, ltb-false, not-false}
use Rattle.std.specs.Prelude.{slice_range}
use Rattle.fields.specs.Fields.{if}
use Rattle.fields.specs.Refusals.{out_of_range}
use Rattle.fields.proofs.ChoiceLaws.{or_left, or_right}
use Rattle.memories.specs.declared.VifUnit.{VifUnit}
use Rattle.memories.specs.declared.VifUnit.TheVariants.{Vif0, Vif1}
use Rattle.memories.specs.Units.{quadwords, data_words}
use Rattle.memories.proofs.UnitLaws.{quadwords_most}
use Rattle.compare.specs.declared.Found.{Found}
use Rattle.compare.specs.declared.Comparison.{Comparison}
use Rattle.compare.specs.CompareAnswer.{CompareAnswer, Compared, Refused}
use Rattle.compare.specs.Elements.{differs, found, found_in, found_from}
use Rattle.compare.specs.Parts.{data_part, asks}
use Rattle.compare.specs.Boards.{Board, memories_of, data_refused, compare_of}
use Rattle.compare.specs.Within.{beyond, range_refused, quadwords_within, answer_within, compare_within}
use Rattle.compare.specs.Inner.{Inside, RangeFits}
use Rattle.compare.proofs.TestLaws.{first_is}
use Rattle.compare.proofs.LengthLaws.{asked_passed, lengths_right, accepted}
use Rattle.compare.proofs.Verdict.{compared}

-- ---- what is found from an element on

-- the numbers from a place to the end
to_end : (a : List ℕ) (k : ℕ) → take (length a - k) (drop k a) ≡ drop k a
to_end a k =
    let l = length-drop k a in
    take_all (length a - k) (drop k a) (omega arith)

-- elements from one on lie within those to the end
pub inside_from : (from n : ℕ) (a b : List ℕ) → Inside (4 * (from + n)) a b
    → Inside (4 * n) (slice_range a (4 * from) (length a)) (slice_range b (4 * from) (length b))
inside_from from n a b p =
    let x = length-drop (4 * from) a in
    let y = length-drop (4 * from) b in
    let s = p.small in
    let l = p.left in
    let r = p.right in
    rw (to_end a (4 * from), to_end b (4 * from)) (record { small = omega arith; left = omega arith; right = omega arith })

module _ (from n : ℕ) (a b : List ℕ) {f : Found}
    (e : f ≡ found_in 4 (take (length a - 4 * from) (drop (4 * from) a)) (take (length b - 4 * from) (drop (4 * from) b)) n) where
  found_to_end : f ≡ found_in 4 (drop (4 * from) a) (drop (4 * from) b) n
  found_to_end = rw (to_end a (4 * from), to_end b (4 * from)) at e

  pub found_first_most : f.first ≤ n
  unfolding found_in
  found_first_most = rw found_to_end (first_is (differs 4 (drop (4 * from) a) (drop (4 * from) b)) n).inside

  pub found_from_is : found (from + f.first) f.count ≡ found_from 4 from a b n
  unfolding found_from
  found_from_is = rw found_to_end

-- ---- the range

module _ (parts : ℕ) (u : VifUnit) (first last : ℕ) {a b : List ℕ} (f : RangeFits parts u first last a b) {part : ℕ} {asked : Bool} (p : part ≡ data_part u)
    (t : asked ≡ asks parts part) where
  range_asked : asked ≡ true → asks parts (data_part u) ≡ true
  range_asked h = rw (← p, ← t) h

  pub last_below : asked ≡ true → last < 1024
  unfolding beyond
  last_below h =
      let q = quadwords_most u in
      let l : last < quadwords u = leb-false _ _ (asked_passed f.inside (range_asked h)) in
      omega arith

  pub range_inside : asked ≡ true → Inside (4 * (first + (last + 1 - first))) a b
  unfolding beyond data_refused
  range_inside h =
      let q = quadwords_most u in
      let l : last < quadwords u = leb-false _ _ (asked_passed f.inside (range_asked h)) in
      let m : (length a ≡ data_words u) × (length b ≡ data_words u) = lengths_right (asked_passed f.mem (range_asked h)) in
      let o = f.order in
      record { small = omega arith; left = omega arith; right = omega arith }

  pub range_compared : asked ≡ true → {r : Found} → r ≡ found_from 4 first a b (last + 1 - first) → r ≡ quadwords_within parts u first last a b
  unfolding quadwords_within if
  range_compared h e = rw (range_asked h) e

  pub range_unasked : asked ≡ false → found 0 0 ≡ quadwords_within parts u first last a b
  unfolding quadwords_within if
  range_unasked h =
      let g : asks parts (data_part u) ≡ false = rw (← p, ← t) h in
      rw g

-- a range that is not refused
pub record RangePassed (parts first last : ℕ) : Type 0 where
  pub order : first ≤ last
  pub some : (asks parts (data_part Vif1) || asks parts (data_part Vif0)) ≡ true
  pub inside : (u : VifUnit) → beyond parts u last ≡ false

none_beyond : (parts last : ℕ) → beyond parts Vif1 last ≡ false → beyond parts Vif0 last ≡ false → (u : VifUnit) → beyond parts u last ≡ false
none_beyond parts last p q Vif1 = p
none_beyond parts last p q Vif0 = q

pub range_passed : (parts first last : ℕ) → range_refused parts first last ≡ false → RangePassed parts first last
unfolding range_refused
range_passed parts first last h =
    let none = not (asks parts (data_part Vif1) || asks parts (data_part Vif0)) in
    let l = or_left (ltb last first || none || beyond parts Vif1 last) _ h in
    let k = or_left (ltb last first || none) _ l in
    record {
      order = ltb-false last first (or_left _ _ k);
      some = not-false _ (or_right (ltb last first) _ k);
      inside =
          none_beyond parts last (or_right (ltb last first || none) _ l) (or_right (ltb last first || none || beyond parts Vif1 last) _ h);
    }

-- ---- the answers

module _ (parts first last : ℕ) (a b : Board) {t : Bool} (e : t ≡ range_refused parts first last) where
  pub range_out : t ≡ true → Refused out_of_range ≡ compare_within parts first last a b
  unfolding compare_within if
  range_out h = rw (← e, h)

  module _ (h : t ≡ false) {x : CompareAnswer} (q : x ≡ compare_of parts a b) where
    pub answer_within_lem : answer_within parts first last a b x ≡ compare_within parts first last a b
    unfolding compare_within if
    answer_within_lem = rw (← e, h, ← q)

    pub range_fits : {c : Comparison} → x ≡ Compared c → (u : VifUnit) → RangeFits parts u first last (memories_of u a).mem (memories_of u b).mem
    range_fits {c} z u =
        let r = range_passed parts first last (sym e ∙ h) in
        record {
          order = r.order;
          inside = r.inside u;
          mem = ((accepted parts a b (compared parts a b c (sym q ∙ z)).0).units u).mem;
        }

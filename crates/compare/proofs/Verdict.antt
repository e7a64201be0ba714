-- What the comparison says of two boards; the verdict "same" holds exactly if the parts that are asked for are equal, with all parts exactly if the whole
-- boards are.
use mathlib.Core.Path.{◌≡◌, refl, sym, ap, ◌∙◌}
use mathlib.Core.Bool.{Bool, true, false, ◌&&◌}
use mathlib.Core.Logic.{◌↔◌}
use mathlib.Core.List.{List}
use Prim.Native.Nat.{ℕ, ◌*◌, ◌<◌}
use native.Mathlib.Nat.{mul-zero}
use native.Mathlib.Omega.{arith}
use lib.Dec.{eqb}
use lib.ListN.{length, take}
use lib.Seq.{take_all}
use borrow.Author.Tests.{eq-eqb, ne_eqb, eqb-true, lt-ltb}
use Rattle.fields.specs.Fields.{if}
use Rattle.fields.specs.Refusals.{out_of_range}
use Rattle.fields.proofs.ChoiceLaws.{if_ind_by, and_left, and_right}
use Rattle.gif.specs.Log.{entry_size}
use Rattle.memories.specs.declared.VifUnit.{VifUnit}
use Rattle.memories.specs.declared.VifUnit.TheVariants.{Vif0, Vif1}
use Rattle.memories.specs.Units.{quadwords, instructions}
use Rattle.compare.specs.declared.UnitFound.{UnitFound}
use Rattle.compare.specs.declared.Comparison.{Comparison}
use Rattle.compare.specs.CompareAnswer.{CompareAnswer, Compared, Refused}
use Rattle.compare.specs.Tests.{how_many, first_of}
use Rattle.compare.specs.Elements.{found, found_in}
use Rattle.compare.specs.Parts.{data_part, code_part, log_part, all_parts, asks, looked_at, Asked}
use Rattle.compare.specs.Boards.{Memories, memories, Board, memories_of, other_length, data_refused, code_refused, refusal, compare_of}
use Rattle.compare.specs.Boards.{smaller, unit_found, entries_asked, comparison_of, found_of, unit_same, same_of}
use Rattle.compare.specs.Equal.{InRange, Whole, EqualEntries, EqualIn, Equal, EqualTo, Says}
use Rattle.compare.proofs.TestLaws.{never}
use Rattle.compare.proofs.LengthLaws.{lengths_right, accepted, boards_whole, whole_boards}
use Rattle.compare.proofs.CompareLaws.{smaller_same, quadwords_inside, instructions_inside, entries_in_logs}
use Rattle.compare.proofs.ListLaws.{found_says}

-- ---- which boards are compared: with a sum of parts those that are whole in them, and no others

pub whole_compared : (parts : ℕ) (a b : Board) → InRange parts → Whole parts a → Whole parts b → compare_of parts a b ≡ Compared (comparison_of parts a b)
unfolding compare_of if
whole_compared parts a b r v w = rw (whole_boards parts a b r v w)

pub none_asked : (a b : Board) → compare_of 0 a b ≡ Refused out_of_range
unfolding compare_of refusal if
none_asked a b = refl

pub more_asked : (parts : ℕ) (a b : Board) → all_parts < parts → compare_of parts a b ≡ Refused out_of_range
unfolding compare_of refusal if
more_asked parts a b h =
    let z : parts ≡ 0 → ⊥ = λ z. omega (arith, h, z) in
    rw (ne_eqb parts 0 z, lt-ltb all_parts parts h)

-- ---- one part

-- nothing is found in no elements
pub none_found : (size : ℕ) (a b : List ℕ) → found_in size a b 0 ≡ found 0 0
unfolding found_in first_of how_many
none_found size a b = refl

-- the elements that are looked at are equal exactly if the memories are, where they are asked for
memory_equal : (asked : Bool) (size n : ℕ) (a b : List ℕ) → (asked && other_length (size * n) (length a) (length b)) ≡ false
    → EqualTo size a b (looked_at asked n) ↔ (asked ≡ true → a ≡ b)
unfolding looked_at if
memory_equal true size n a b p =
    let l : (length a ≡ size * n) × (length b ≡ size * n) = lengths_right p in
    (λ m t. sym (take_all (size * n) a (omega arith)) ∙ m ∙ take_all (size * n) b (omega arith), λ h. ap (take (size * n)) (h refl))
memory_equal false size n a b p = (λ m t. absurd (never t refl), λ h. rw (mul-zero size))

-- the same of the entries and how many there are
entries_equal : (asked : Bool) (a b : Board)
    → (EqualTo entry_size a.log b.log (smaller (looked_at asked a.used) (looked_at asked b.used))
    × (looked_at asked a.used ≡ looked_at asked b.used))
    ↔ (asked ≡ true → EqualEntries a b)
unfolding looked_at if
entries_equal true a b = (
  λ h t. record { used = h.1; entries = rw h.1 (rw (h.1, smaller_same b.used) at h.0) },
  λ h.
      let q = h refl in
      (rw (q.used, smaller_same b.used) (rw q.used at q.entries), q.used),
)
entries_equal false a b = (λ h t. absurd (never t refl), λ h. (rw (smaller_same 0), refl))

-- no count of a comparison is above 0, and both boards have as many entries
pub record NoneDiffers (c : Comparison) : Type 0 where
  pub quadwords : (u : VifUnit) → (found_of u c).quadwords.count ≡ 0
  pub instructions : (u : VifUnit) → (found_of u c).instructions.count ≡ 0
  pub entries : c.entries.count ≡ 0
  pub used : c.used.first ≡ c.used.second

unit_same_lem : (f : UnitFound) → (unit_same f ≡ true) ↔ ((f.quadwords.count ≡ 0) × (f.instructions.count ≡ 0))
unfolding unit_same
unit_same_lem f = (
  λ h. (eqb-true _ _ (and_left _ _ h), eqb-true _ _ (and_right (eqb f.quadwords.count 0) _ h)),
  λ h. rw (h.0, h.1),
)

-- the verdict, by the counts
module _ (c : Comparison) where
  units_same : (unit_same c.vif1 && unit_same c.vif0) ≡ true → (u : VifUnit) → unit_same (found_of u c) ≡ true
  units_same h Vif1 = and_left _ _ h
  units_same h Vif0 = and_right (unit_same c.vif1) _ h

  pub same_none : same_of c ≡ true → NoneDiffers c
  unfolding same_of
  same_none h =
      let m = unit_same c.vif1 && unit_same c.vif0 in
      let l = and_left (m && eqb c.entries.count 0) _ h in
      let k : (u : VifUnit) → unit_same (found_of u c) ≡ true = units_same (and_left m _ l) in
      record {
        quadwords = λ u. ((unit_same_lem (found_of u c)).0 (k u)).0;
        instructions = λ u. ((unit_same_lem (found_of u c)).0 (k u)).1;
        entries = eqb-true _ _ (and_right m _ l);
        used = eqb-true c.used.first c.used.second (and_right (m && eqb c.entries.count 0) _ h);
      }

  pub none_same : NoneDiffers c → same_of c ≡ true
  unfolding same_of
  none_same h =
      let u : (u : VifUnit) → unit_same (found_of u c) ≡ true = λ u. (unit_same_lem (found_of u c)).1 (h.quadwords u, h.instructions u) in
      rw (u Vif1, u Vif0, h.entries, eq-eqb c.used.first c.used.second h.used)

module _ (parts : ℕ) (a b : Board) (c : Comparison) (e : compare_of parts a b ≡ Compared c) where
  pub compared : (refusal parts a b ≡ 0) × (c ≡ comparison_of parts a b)
  unfolding compare_of
  compared =
      if_ind_by (λ (r : CompareAnswer). r ≡ Compared c → (refusal parts a b ≡ 0) × (c ≡ comparison_of parts a b)) (eqb (refusal parts a b) 0)
      (λ t q. (eqb-true _ _ t, cc)) (λ f q. absurd (let z : ◌≡◌ {A = ℕ} 0 1 = cc in omega arith))
      e

  pub compared_in_range : InRange parts
  compared_in_range = (accepted parts a b compared.0).range

  pub compared_whole : Whole parts a × Whole parts b
  compared_whole = boards_whole parts a b compared.0

  -- ---- what is found

  unit_found_lem : (u : VifUnit) → found_of u c ≡ unit_found parts u (memories_of u a) (memories_of u b)
  unfolding comparison_of
  unit_found_lem Vif1 = ap (found_of Vif1) compared.1
  unit_found_lem Vif0 = ap (found_of Vif0) compared.1

  module _ (u : VifUnit) where
    pub quadwords_say : Says 4 (memories_of u a).mem (memories_of u b).mem (looked_at (asks parts (data_part u)) (quadwords u)) (found_of u c).quadwords
    unfolding unit_found
    quadwords_say =
        rw (unit_found_lem u)
        (found_says 4 (memories_of u a).mem (memories_of u b).mem (looked_at (asks parts (data_part u)) (quadwords u)) (omega arith)
        (quadwords_inside parts u ((accepted parts a b compared.0).units u).mem refl))

    pub instructions_say : Says 8 (memories_of u a).code (memories_of u b).code (looked_at (asks parts (code_part u)) (instructions u)) (found_of u c).instructions
    unfolding unit_found
    instructions_say =
        rw (unit_found_lem u)
        (found_says 8 (memories_of u a).code (memories_of u b).code (looked_at (asks parts (code_part u)) (instructions u)) (omega arith)
        (instructions_inside parts u ((accepted parts a b compared.0).units u).code refl))

  pub entries_say : Says entry_size a.log b.log (smaller (entries_asked parts a) (entries_asked parts b)) c.entries
  unfolding comparison_of
  entries_say =
      rw compared.1
      (found_says entry_size a.log b.log (smaller (entries_asked parts a) (entries_asked parts b)) (omega arith) (entries_in_logs parts a b compared.0))

  used_is : (c.used.first ≡ entries_asked parts a) × (c.used.second ≡ entries_asked parts b)
  unfolding comparison_of
  used_is = rw compared.1 (refl, refl)

  -- ---- a part that is not asked for: all its numbers are 0

  pub data_not_asked : (u : VifUnit) → asks parts (data_part u) ≡ false → (found_of u c).quadwords ≡ found 0 0
  unfolding unit_found looked_at if
  data_not_asked u h = rw (unit_found_lem u, h) (none_found 4 (memories_of u a).mem (memories_of u b).mem)

  pub code_not_asked : (u : VifUnit) → asks parts (code_part u) ≡ false → (found_of u c).instructions ≡ found 0 0
  unfolding unit_found looked_at if
  code_not_asked u h = rw (unit_found_lem u, h) (none_found 8 (memories_of u a).code (memories_of u b).code)

  pub log_not_asked : asks parts log_part ≡ false → c.entries ≡ found 0 0
  unfolding comparison_of looked_at if
  log_not_asked h = rw (compared.1, h, smaller_same 0) (none_found entry_size a.log b.log)

  -- ---- the verdict

  module _ (u : VifUnit) where
    data_equal : ((found_of u c).quadwords.count ≡ 0) ↔ (Asked parts (data_part u) → (memories_of u a).mem ≡ (memories_of u b).mem)
    unfolding data_refused
    data_equal =
        let s = (quadwords_say u).none in
        let m =
        memory_equal (asks parts (data_part u)) 4 (quadwords u) (memories_of u a).mem (memories_of u b).mem ((accepted parts a b compared.0).units u).mem in
        (λ z. m.0 (s.0 z), λ h. s.1 (m.1 h))

    pub code_equal : ((found_of u c).instructions.count ≡ 0) ↔ (Asked parts (code_part u) → (memories_of u a).code ≡ (memories_of u b).code)
    unfolding code_refused
    code_equal =
        let s = (instructions_say u).none in
        let m =
        memory_equal (asks parts (code_part u)) 8 (instructions u) (memories_of u a).code (memories_of u b).code ((accepted parts a b compared.0).units u).code in
        (λ z. m.0 (s.0 z), λ h. s.1 (m.1 h))

  pub log_equal : ((c.entries.count ≡ 0) × (c.used.first ≡ c.used.second)) ↔ (Asked parts log_part → EqualEntries a b)
  log_equal =
      let s = entries_say.none in
      let m = entries_equal (asks parts log_part) a b in (
        λ h. m.0 (s.0 h.0, sym used_is.0 ∙ h.1 ∙ used_is.1),
        λ h. let l = m.1 h in (s.1 l.0, used_is.0 ∙ l.1 ∙ sym used_is.1),
      )

  pub verdict : (same_of c ≡ true) ↔ EqualIn parts a b
  verdict = (
    λ h.
        let n = same_none c h in
        record {
          mem = λ u. (data_equal u).0 (n.quadwords u);
          code = λ u. (code_equal u).0 (n.instructions u);
          log = log_equal.0 (n.entries, n.used);
        },
    λ h.
        let l = log_equal.1 h.log in
        none_same c
        (record {
          quadwords = λ u. (data_equal u).1 (h.mem u);
          instructions = λ u. (code_equal u).1 (h.code u);
          entries = l.0;
          used = l.1;
        }),
  )

-- ---- all parts

memories_equal : {m n k l : List ℕ} → m ≡ n → k ≡ l → memories m k ≡ memories n l
memories_equal p q = rw (p, q)

all_data : (u : VifUnit) → Asked all_parts (data_part u)
unfolding asks
all_data Vif1 = refl
all_data Vif0 = refl

all_code : (u : VifUnit) → Asked all_parts (code_part u)
unfolding asks
all_code Vif1 = refl
all_code Vif0 = refl

all_log : Asked all_parts log_part
unfolding asks
all_log = refl

all_equal : (a b : Board) → EqualIn all_parts a b ↔ Equal a b
all_equal a b = (
  λ h.
      let m : (u : VifUnit) → memories_of u a ≡ memories_of u b = λ u. memories_equal (h.mem u (all_data u)) (h.code u (all_code u)) in
      record { vif1 = m Vif1; vif0 = m Vif0; log = h.log all_log },
  λ h. record { mem = λ u t. ap (λ (m : Memories). m.mem) (both h u); code = λ u t. ap (λ (m : Memories). m.code) (both h u); log = λ t. h.log },
)
  where
    both : Equal a b → (u : VifUnit) → memories_of u a ≡ memories_of u b
    both h Vif1 = h.vif1
    both h Vif0 = h.vif0

-- with all parts, "same" is the equality of the whole boards
pub verdict_all : (a b : Board) (c : Comparison) → compare_of all_parts a b ≡ Compared c → (same_of c ≡ true) ↔ Equal a b
verdict_all a b c e =
    let v = verdict all_parts a b c e in
    let w = all_equal a b in
    (λ h. w.0 (v.0 h), λ h. v.1 (w.1 h))

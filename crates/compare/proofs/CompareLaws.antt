-- The answers of the comparison.
use mathlib.Core.Path.{◌≡◌, refl, ◌∙◌}
use mathlib.Core.Bool.{Bool, true, false, ◌&&◌}
use mathlib.Core.List.{List}
use Prim.Native.Nat.{ℕ, ◌*◌, ◌≤◌, min}
use native.Mathlib.Nat.{mul-zero}
use native.Mathlib.Omega.{arith}
use lib.ListN.{length}
use lib.Dec.{ltb}
use borrow.Author.Rules.{rules}
use borrow.Author.Tests.{ltb-true, ltb-false}
use Rattle.fields.specs.Fields.{if}
use Rattle.fields.specs.declared.refusals.Refusal.{Refusal}
use Rattle.fields.specs.Refusals.{refusal_number}
use Rattle.fields.proofs.ChoiceLaws.{if_ind_by}
use Rattle.fields.proofs.RefusalLaws.{refusal_not_none}
use Rattle.gif.specs.Log.{entry_size, log_most}
use Rattle.memories.specs.declared.VifUnit.{VifUnit}
use Rattle.memories.specs.declared.VifUnit.TheVariants.{Vif0, Vif1}
use Rattle.memories.specs.Units.{quadwords, instructions}
use Rattle.memories.proofs.UnitLaws.{quadwords_most, instructions_most}
use Rattle.compare.specs.declared.Comparison.{Comparison}
use Rattle.compare.specs.declared.Found.{Found}
use Rattle.compare.specs.declared.UnitFound.{UnitFound}
use Rattle.compare.specs.CompareAnswer.{Compared, Refused}
use Rattle.compare.specs.Elements.{found_in}
use Rattle.compare.specs.Parts.{data_part, code_part, log_part, asks, looked_at}
use Rattle.compare.specs.Boards.{Memories, Board, other_length, data_refused, code_refused, refusal}
use Rattle.compare.specs.Boards.{smaller, unit_found, entries_asked, comparison_of, compare_of}
use Rattle.compare.specs.Equal.{WholeLog}
use Rattle.compare.specs.Inner.{Inside}
use Rattle.compare.proofs.LengthLaws.{lengths_right, boards_whole}

pub smaller_below : (x y : ℕ) → (smaller x y ≤ x) × (smaller x y ≤ y)
unfolding smaller
smaller_below x y =
    if_ind_by (λ (k : ℕ). (k ≤ x) × (k ≤ y)) (ltb x y) (λ t. omega (arith, ltb-true)) (λ f. omega (arith, ltb-false))

pub min_smaller : (x y : ℕ) → min x y ≡ smaller x y
unfolding smaller
min_smaller x y =
    if_ind_by (λ (k : ℕ). min x y ≡ k) (ltb x y) (λ t. omega (arith, ltb-true)) (λ f. omega (arith, ltb-false))

pub smaller_same : (x : ℕ) → smaller x x ≡ x
unfolding smaller
smaller_same x = if_ind_by (λ (k : ℕ). k ≡ x) (ltb x x) (λ t. refl) (λ f. refl)

-- ---- what is compared lies in the lists

none_inside : {n : ℕ} {a b : List ℕ} → n ≡ 0 → Inside n a b
none_inside e = search rules

memory_inside : (asked : Bool) (size n : ℕ) (a b : List ℕ) → size * n ≤ log_most → (asked && other_length (size * n) (length a) (length b)) ≡ false
    → Inside (size * looked_at asked n) a b
unfolding looked_at if
memory_inside true size n a b h p =
    let l : (length a ≡ size * n) × (length b ≡ size * n) = lengths_right p in
    record { small = h; left = omega arith; right = omega arith }
memory_inside false size n a b h p = none_inside (mul-zero size)

entries_inside_by : (asked : Bool) (a b : List ℕ) (x y : ℕ) → (asked ≡ true → WholeLog a x) → (asked ≡ true → WholeLog b y)
    → Inside (entry_size * smaller (looked_at asked x) (looked_at asked y)) a b
unfolding looked_at if
entries_inside_by true a b x y v w =
    let s = smaller_below x y in
    let p = v refl in
    let q = w refl in
    search rules
entries_inside_by false a b x y v w = none_inside (rw (smaller_same 0))

pub entries_in_logs : (parts : ℕ) (a b : Board) → refusal parts a b ≡ 0
    → Inside (entry_size * smaller (entries_asked parts a) (entries_asked parts b)) a.log b.log
entries_in_logs parts a b e =
    let w = boards_whole parts a b e in
    entries_inside_by (asks parts log_part) a.log b.log a.used b.used w.0.log w.1.log

-- how many are looked at, by the part's number and the unit's size
pub looked_at_is : (parts : ℕ) {p q : ℕ} {asked : Bool} {m n k : ℕ} → p ≡ q → asked ≡ asks parts p → m ≡ n → k ≡ looked_at asked m → k ≡ looked_at (asks parts q) n
looked_at_is parts e t d l = rw (← e, ← t, ← d) l

module _ (parts : ℕ) (u : VifUnit) {a b : List ℕ} {n : ℕ} where
  pub quadwords_inside : data_refused parts u a b ≡ false → n ≡ looked_at (asks parts (data_part u)) (quadwords u) → Inside (4 * n) a b
  unfolding data_refused
  quadwords_inside h e =
      let m = quadwords_most u in
      rw e (memory_inside (asks parts (data_part u)) 4 (quadwords u) a b (omega arith) h)

  pub instructions_inside : code_refused parts u a b ≡ false → n ≡ looked_at (asks parts (code_part u)) (instructions u) → Inside (8 * n) a b
  unfolding code_refused
  instructions_inside h e =
      let m = instructions_most u in
      rw e (memory_inside (asks parts (code_part u)) 8 (instructions u) a b (omega arith) h)

-- what is found in a unit's memories, by what is found in each
pub unit_found_is : (parts : ℕ) (u : VifUnit) (a b : Memories) {m n : ℕ} {f g : Found} → m ≡ looked_at (asks parts (data_part u)) (quadwords u)
    → n ≡ looked_at (asks parts (code_part u)) (instructions u)
    → f ≡ found_in 4 a.mem b.mem m
    → g ≡ found_in 8 a.code b.code n
    → ◌≡◌ {A = UnitFound} (record { quadwords = f; instructions = g }) (unit_found parts u a b)
unfolding unit_found
unit_found_is parts u a b p q e d = rw (← p, ← q, e, d)

-- the entries that both boards have, by how many of each are looked at
module _ (parts : ℕ) (a b : Board) {asked : Bool} {k l n : ℕ} (t : asked ≡ asks parts log_part) (p : k ≡ looked_at asked a.used)
    (q : l ≡ looked_at asked b.used) (e : n ≡ min k l) where
  entries_looked_at : n ≡ smaller (entries_asked parts a) (entries_asked parts b)
  entries_looked_at = rw (← t, ← p, ← q) (e ∙ min_smaller k l)

  pub entries_inside : refusal parts a b ≡ 0 → Inside (entry_size * n) a.log b.log
  entries_inside z = rw entries_looked_at (entries_in_logs parts a b z)

  pub comparison_is : {v w : UnitFound} {f : Found} → v ≡ unit_found parts Vif1 a.vif1 b.vif1
      → w ≡ unit_found parts Vif0 a.vif0 b.vif0
      → f ≡ found_in entry_size a.log b.log n
      → ◌≡◌ {A = Comparison} (record { vif1 = v; vif0 = w; entries = f; used = record { first = k; second = l } }) (comparison_of parts a b)
  unfolding comparison_of
  comparison_is c d g = rw (c, d, g, entries_looked_at, p, q, t)

-- ---- the answers

module _ (parts : ℕ) (a b : Board) where
  pub boards_refused : (e : Refusal) → refusal_number e ≡ refusal parts a b → Refused (refusal_number e) ≡ compare_of parts a b
  unfolding compare_of if
  boards_refused e p = rw (← p, refusal_not_none e)

  pub boards_compared : {c : Comparison} → 0 ≡ refusal parts a b → c ≡ comparison_of parts a b → Compared c ≡ compare_of parts a b
  unfolding compare_of if
  boards_compared z q = rw (← z, q)

-- Parts and lengths that are refused, and those that are not.
use mathlib.Core.Path.{◌≡◌, refl}
use mathlib.Core.Bool.{Bool, true, false, not, ◌&&◌}
use mathlib.Core.List.{List}
use Prim.Native.Nat.{ℕ, ◌*◌, ◌%◌, ◌≤◌}
use native.Mathlib.Omega.{arith}
use lib.ListN.{length}
use lib.Dec.{eqb, ltb}
use borrow.Author.Tests.{eq-eqb, ne_eqb, le-ltb, eqb-true, eqb-false, ltb-false, not-false}
use Rattle.fields.specs.Fields.{if}
use Rattle.fields.specs.Refusals.{data_length, code_length, log_length, out_of_range}
use Rattle.fields.proofs.ChoiceLaws.{if_ind, if_zero, or_left, or_right}
use Rattle.gif.specs.Log.{entry_size, log_most, log_refused}
use Rattle.gif.proofs.RangeLaws.{log_fits}
use Rattle.memories.specs.declared.VifUnit.{VifUnit}
use Rattle.memories.specs.declared.VifUnit.TheVariants.{Vif0, Vif1}
use Rattle.memories.specs.Units.{data_words, code_bytes}
use Rattle.compare.specs.Parts.{data_part, code_part, log_part, all_parts, asks}
use Rattle.compare.specs.Boards.{Board, memories_of, other_length, data_refused, code_refused, logs_refused, refusal}
use Rattle.compare.specs.Equal.{InRange, WholeLog, Whole}
use Rattle.compare.specs.Inner.{UnitFits}

-- ---- one part

-- a test of a part that is asked for, and one that is not made where the part is not
pub asked_passed : {asked test : Bool} → (asked && test) ≡ false → asked ≡ true → test ≡ false
asked_passed h t = rw t at h

pub passed_asked : (asked : Bool) {test : Bool} → (asked ≡ true → test ≡ false) → (asked && test) ≡ false
passed_asked true h = h refl
passed_asked false h = refl

pub lengths_right : {n x y : ℕ} → other_length n x y ≡ false → (x ≡ n) × (y ≡ n)
lengths_right {n} {x} {y} h = (eqb-true x n (not-false _ (or_left _ _ h)), eqb-true y n (not-false _ (or_right (not (eqb x n)) _ h)))

right_lengths : {n x y : ℕ} → x ≡ n → y ≡ n → other_length n x y ≡ false
right_lengths {n} {x} {y} p q = rw (eq-eqb x n p, eq-eqb y n q)

log_whole : (log : List ℕ) (used : ℕ) → log_refused log used ≡ false → WholeLog log used
unfolding log_refused
log_whole log used h =
    let f = log_fits log used h in
    record { whole = eqb-true (length log % entry_size) 0 (not-false _ (or_left _ _ h)); most = f.short; room = f.holds }

whole_log : {log : List ℕ} {used : ℕ} → WholeLog log used → log_refused log used ≡ false
unfolding log_refused
whole_log {log} {used} w =
    rw (eq-eqb _ _ w.whole, le-ltb log_most (length log) w.most, le-ltb (length log) (entry_size * used) w.room)

-- ---- all parts

-- nothing is refused
pub record Accepted (parts : ℕ) (a b : Board) : Type 0 where
  pub range : InRange parts
  pub units : (u : VifUnit) → UnitFits parts u (memories_of u a) (memories_of u b)
  pub logs : logs_refused parts a.log a.used b.log b.used ≡ false

in_range : (parts : ℕ) → eqb parts 0 ≡ false → ltb all_parts parts ≡ false → InRange parts
in_range parts p q =
    let n = eqb-false parts 0 p in
    record { some = omega arith; most = ltb-false _ _ q }

units_fit : (parts : ℕ) (a b : Board) → data_refused parts Vif1 a.vif1.mem b.vif1.mem ≡ false
    → data_refused parts Vif0 a.vif0.mem b.vif0.mem ≡ false
    → code_refused parts Vif1 a.vif1.code b.vif1.code ≡ false
    → code_refused parts Vif0 a.vif0.code b.vif0.code ≡ false
    → (u : VifUnit)
    → UnitFits parts u (memories_of u a) (memories_of u b)
units_fit parts a b d1 d0 k1 k0 Vif1 = record { mem = d1; code = k1 }
units_fit parts a b d1 d0 k1 k0 Vif0 = record { mem = d0; code = k0 }

module _ (parts : ℕ) (a b : Board) where
  pub accepted : refusal parts a b ≡ 0 → Accepted parts a b
  unfolding refusal
  accepted e =
      let r = if_zero _ out_of_range (omega arith) e in
      let d = if_zero _ data_length (omega arith) r.1 in
      let k = if_zero _ code_length (omega arith) d.1 in
      let l = if_zero _ log_length (omega arith) k.1 in
      record {
        range = in_range parts (or_left _ _ r.0) (or_right (eqb parts 0) _ r.0);
        units =
            units_fit parts a b (or_left _ _ d.0) (or_right (data_refused parts Vif1 _ _) _ d.0) (or_left _ _ k.0) (or_right (code_refused parts Vif1 _ _) _ k.0);
        logs = l.0;
      }

  -- boards that are not refused are whole
  pub boards_whole : refusal parts a b ≡ 0 → Whole parts a × Whole parts b
  unfolding data_refused code_refused logs_refused
  boards_whole e =
      let w = accepted e in (
        record {
          words = λ u t. (lengths_right (asked_passed (w.units u).mem t)).0;
          bytes = λ u t. (lengths_right (asked_passed (w.units u).code t)).0;
          log = λ t. log_whole _ _ (or_left _ _ (asked_passed w.logs t));
        },
        record {
          words = λ u t. (lengths_right (asked_passed (w.units u).mem t)).1;
          bytes = λ u t. (lengths_right (asked_passed (w.units u).code t)).1;
          log = λ t. log_whole _ _ (or_right (log_refused a.log a.used) _ (asked_passed w.logs t));
        },
      )

  whole_data : Whole parts a → Whole parts b → (u : VifUnit) → data_refused parts u (memories_of u a).mem (memories_of u b).mem ≡ false
  unfolding data_refused
  whole_data v w u = passed_asked (asks parts (data_part u)) (λ t. right_lengths {n = data_words u} (v.words u t) (w.words u t))

  whole_code : Whole parts a → Whole parts b → (u : VifUnit) → code_refused parts u (memories_of u a).code (memories_of u b).code ≡ false
  unfolding code_refused
  whole_code v w u = passed_asked (asks parts (code_part u)) (λ t. right_lengths {n = code_bytes u} (v.bytes u t) (w.bytes u t))

  whole_logs : Whole parts a → Whole parts b → logs_refused parts a.log a.used b.log b.used ≡ false
  unfolding logs_refused
  whole_logs v w = passed_asked (asks parts log_part) (λ t. rw (whole_log (v.log t), whole_log (w.log t)))

  -- and whole boards are not refused
  pub whole_boards : InRange parts → Whole parts a → Whole parts b → refusal parts a b ≡ 0
  unfolding refusal if
  whole_boards r v w =
      let n : parts ≡ 0 → ⊥ = λ z. omega (arith, r.some, z) in
      rw (ne_eqb parts 0 n, le-ltb all_parts parts r.most, whole_data v w Vif1, whole_data v w Vif0, whole_code v w Vif1, whole_code v w Vif0, whole_logs v w)

  -- no other number
  pub refusal_most : refusal parts a b ≤ out_of_range
  unfolding refusal
  refusal_most =
      if_ind (λ (n : ℕ). n ≤ out_of_range) _ (omega arith)
      (if_ind (λ (n : ℕ). n ≤ out_of_range) _ (omega arith)
      (if_ind (λ (n : ℕ). n ≤ out_of_range) _ (omega arith) (if_ind (λ (n : ℕ). n ≤ out_of_range) _ (omega arith) (omega arith))))

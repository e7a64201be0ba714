-- Writes from what their parts give, and one write after another.
use Rattle.std.proofs.Common.{◌≡◌, ℕ, zero, suc, ◌+◌, ◌-◌, ◌*◌, ◌/◌, ◌%◌, ◌<◌, ◌≤◌, Bool, true, false, ◌&&◌, ◌||◌, eqb, leb, List, [], ◌∷◌, length, get_or, set, sym, refl, ◌∙◌, mod-lt, mul-le-mul, div-le_self, add-one, arith, lt-ltb, eqb-true, le-leb}
use native.Mathlib.Nat.{min-le_right}
use Rattle.fields.specs.Fields.{if}
use Rattle.fields.proofs.ChoiceLaws.{if_ind, if_ind_by, and_left, and_right}
use Rattle.unpack_rules.specs.declared.Registers.{Registers}
use Rattle.unpack_rules.specs.Position.{filling, fills, vectors_before, position_of}
use Rattle.unpack_rules.specs.Mask.{row_of_cycle, code_row, unfolded}
use Rattle.unpack_rules.specs.Write.{row_of, data_of, field_of, rows_after, put_field, written_at, Written, written, write_vector, registers_at, write_at, writes_from}
use Rattle.unpack_rules.specs.Whole.{store_quadword}
use Rattle.unpack_rules.specs.Range.{CycleFits}
use Rattle.unpack_rules.specs.Inner.{plain}
use Rattle.unpack_rules.proofs.CycleLaws.{plain_vectors}

pub below4 : (P : ℕ → Type 0) → P 0 → P 1 → P 2 → P 3 → (n : ℕ) → n < 4 → P n
below4 P p0 p1 p2 p3 zero h = p0
below4 P p0 p1 p2 p3 (suc zero) h = p1
below4 P p0 p1 p2 p3 (suc (suc zero)) h = p2
below4 P p0 p1 p2 p3 (suc (suc (suc zero))) h = p3
below4 P p0 p1 p2 p3 (suc (suc (suc (suc n)))) h = absurd (omega arith)

-- one choice in another
pub if_both : (a b : Bool) (x y : ℕ) → if a (if b x y) y ≡ if (a && b) x y
unfolding if
if_both true b x y = refl
if_both false b x y = refl

pub if_either : (a b : Bool) (x y : ℕ) → if a x (if b x y) ≡ if (a || b) x y
unfolding if
if_either true b x y = refl
if_either false b x y = refl

pub row_few : (wl i : ℕ) {c : ℕ} → c ≡ row_of_cycle wl i → c < 4
unfolding row_of_cycle
row_few wl i e = let h = min-le_right (i % wl) 3 in omega arith

pub row_at : (mask r : ℕ) → r < 4 → get_or (unfolded mask) r [] ≡ code_row mask r
row_at mask r h = below4 (λ (r : ℕ). get_or (unfolded mask) r [] ≡ code_row mask r) refl refl refl refl r h

-- the start of a cycle
pub cycle_most : {i cl wl n : ℕ} → CycleFits cl wl → i ≤ 255 → n ≡ i / wl → n * cl ≤ 65025
cycle_most {i} {cl} {wl} {n} f h e =
    let d = div-le_self i wl in
    let q : n ≤ 255 = omega arith in
    mul-le-mul q f.most

-- a position lies inside the memory, once over its size
pub position_inside : (size a cl wl i : ℕ) → 1 ≤ size → position_of size a cl wl i < size
unfolding position_of
position_inside size a cl wl i h =
    if_ind (λ (q : ℕ). q < size) (filling cl wl) (mod-lt (a + i) h) (mod-lt (a + i / wl * cl + i % wl) h)

pub plain_place : (size a cl wl i : ℕ) → filling cl wl ≡ false → position_of size a cl wl i ≡ (a + i / wl * cl + i % wl) % size
unfolding position_of if
plain_place size a cl wl i f = rw f

pub filling_place : (size a cl wl i : ℕ) → filling cl wl ≡ true → position_of size a cl wl i ≡ (a + i) % size
unfolding position_of if
filling_place size a cl wl i f = rw f

pub rows : (codes : List ℕ) (mode : ℕ) (fields row : List ℕ) {a b x y : ℕ}
    → a ≡ row_of (get_or codes 0 0) mode (get_or fields 0 0) (get_or row 0 0)
    → b ≡ row_of (get_or codes 1 0) mode (get_or fields 1 0) (get_or row 1 0)
    → x ≡ row_of (get_or codes 2 0) mode (get_or fields 2 0) (get_or row 2 0)
    → y ≡ row_of (get_or codes 3 0) mode (get_or fields 3 0) (get_or row 3 0)
    → a ∷ b ∷ x ∷ y ∷ [] ≡ rows_after codes mode fields row
unfolding rows_after
rows codes mode fields row ea eb ex ey = rw (ea, eb, ex, ey)

-- what four fields leave
pub stored : (m fields row codes : List ℕ) (q col mode : ℕ) {m1 m2 m3 m4 : List ℕ}
    → m1 ≡ put_field m (4 * q) (get_or codes 0 0) mode (get_or fields 0 0) (get_or row 0 0) col
    → m2 ≡ put_field m1 (4 * q + 1) (get_or codes 1 0) mode (get_or fields 1 0) (get_or row 1 0) col
    → m3 ≡ put_field m2 (4 * q + 2) (get_or codes 2 0) mode (get_or fields 2 0) (get_or row 2 0) col
    → m4 ≡ put_field m3 (4 * q + 3) (get_or codes 3 0) mode (get_or fields 3 0) (get_or row 3 0) col
    → m4 ≡ written_at m q fields row col codes mode
unfolding written_at
stored m fields row codes q col mode e1 e2 e3 e4 = rw (e4, e3, e2, e1)

-- ---- a write without codes and mode

plain_fits : (codes : List ℕ) (mode : ℕ) → plain codes mode ≡ true
    → (mode ≡ 0) × (get_or codes 0 0 ≡ 0) × (get_or codes 1 0 ≡ 0) × (get_or codes 2 0 ≡ 0) × (get_or codes 3 0 ≡ 0)
unfolding plain
plain_fits codes mode h =
    let h1 = and_right (eqb mode 0) _ h in
    let h2 = and_right (eqb (get_or codes 0 0) 0) _ h1 in
    let h3 = and_right (eqb (get_or codes 1 0) 0) _ h2 in
    (eqb-true mode 0 (and_left _ _ h), eqb-true _ 0 (and_left _ _ h1), eqb-true _ 0 (and_left _ _ h2), eqb-true _ 0 (and_left _ _ h3), eqb-true _ 0 (and_right (eqb (get_or codes 2 0) 0) _ h3))

-- in MODE 0 ROW stays, whatever the code
still_row : (code x row : ℕ) → row_of code 0 x row ≡ row
unfolding row_of
still_row code x row = if_ind_by (λ (y : ℕ). y ≡ row) (eqb code 0 && eqb 0 2) (λ t. absurd (let z : ◌≡◌ {A = ℕ} 0 1 = let f = and_right (eqb code 0) _ t in cc in omega arith)) (λ f. refl)

pub plain_rows : (codes fields row : List ℕ) → length row ≡ 4 → rows_after codes 0 fields row ≡ row
unfolding rows_after
plain_rows codes fields [] h = absurd (omega arith)
plain_rows codes fields (a ∷ []) h = absurd (omega arith)
plain_rows codes fields (a ∷ b ∷ []) h = absurd (omega arith)
plain_rows codes fields (a ∷ b ∷ c ∷ []) h = absurd (omega arith)
plain_rows codes fields (a ∷ b ∷ c ∷ d ∷ []) h = simp still_row
plain_rows codes fields (a ∷ b ∷ c ∷ d ∷ e ∷ row) h = absurd (omega arith)

plain_put : (m : List ℕ) (at x row col : ℕ) → put_field m at 0 0 x row col ≡ set m at x
unfolding put_field field_of data_of if
plain_put m at x row col = refl

pub plain_quadword : (m fields row codes : List ℕ) (q col mode : ℕ) → plain codes mode ≡ true
    → written_at m q fields row col codes mode ≡ store_quadword m q fields
unfolding written_at store_quadword
plain_quadword m fields row codes q col mode h =
    let p = plain_fits codes mode h in
    simp (p.0, p.1, p.2, p.3, p.4, plain_put)

pub plain_stored : (mem fields row codes : List ℕ) (q col mode : ℕ) {m : List ℕ} → length row ≡ 4 → plain codes mode ≡ true
    → m ≡ store_quadword mem q fields → (row ≡ rows_after codes mode fields row) × (m ≡ written_at mem q fields row col codes mode)
plain_stored mem fields row codes q col mode l h e =
    (rw (plain_fits codes mode h).0 (sym (plain_rows codes fields row l)), e ∙ sym (plain_quadword mem fields row codes q col mode h))

-- ---- writes

-- the codes of a write's row
pub row_chosen : (mask wl i : ℕ) {codes : List (List ℕ)} {c : ℕ} → codes ≡ unfolded mask → c ≡ row_of_cycle wl i
    → get_or codes c [] ≡ code_row mask (row_of_cycle wl i)
row_chosen mask wl i ec er = rw (ec, er) (row_at mask (row_of_cycle wl i) (row_few wl i refl))

-- one write
pub vector_written : (size a i : ℕ) (r : Registers) (fields row mem : List ℕ) {codes : List ℕ} {q col : ℕ} {rs m : List ℕ}
    → q ≡ position_of size a r.cl r.wl i → codes ≡ code_row r.mask (row_of_cycle r.wl i) → col ≡ get_or r.col (row_of_cycle r.wl i) 0
    → rs ≡ rows_after codes r.mode fields row → m ≡ written_at mem q fields row col codes r.mode
    → written rs m ≡ write_vector size a r i fields (written row mem)
unfolding write_vector
vector_written size a i r fields row mem eq ec el es em = rw (es, em, eq, ec, el)

-- one write, by its place and its MODE
pub at_written : (size a i : ℕ) (r : Registers) (fields row mem : List ℕ) {codes : List ℕ} {q col mode : ℕ} {rs m : List ℕ}
    → q ≡ position_of size a r.cl r.wl i → mode ≡ (registers_at r i).mode
    → codes ≡ code_row r.mask (row_of_cycle r.wl i) → col ≡ get_or r.col (row_of_cycle r.wl i) 0
    → rs ≡ rows_after codes mode fields row → m ≡ written_at mem q fields row col codes mode
    → written rs m ≡ write_vector size a (registers_at r i) i fields (written row mem)
unfolding registers_at
at_written size a i r fields row mem eq em ec el es et =
    vector_written size a i (registers_at r i) fields row mem eq ec el (rw em at es) (rw em at et)

-- a write with CL 0 leaves ROW
pub unfed_written_lem : (size a i : ℕ) (r : Registers) (row mem : List ℕ) {codes : List ℕ} {q col : ℕ} {m : List ℕ} → r.cl ≡ 0 → 1 ≤ r.wl → length row ≡ 4
    → q ≡ (a + i) % size → codes ≡ code_row r.mask (row_of_cycle r.wl i) → col ≡ get_or r.col (row_of_cycle r.wl i) 0
    → m ≡ written_at mem q (0 ∷ 0 ∷ 0 ∷ 0 ∷ []) row col codes 0
    → written row m ≡ write_vector size a (registers_at r i) i (0 ∷ 0 ∷ 0 ∷ 0 ∷ []) (written row mem)
unfolding registers_at fills if
unfed_written_lem size a i r row mem {codes} z w l eq ec el et =
    let f : filling r.cl r.wl ≡ true = lt-ltb r.cl r.wl (omega arith) in
    let b : leb r.cl (i % r.wl) ≡ true = le-leb r.cl (i % r.wl) (omega arith) in
    at_written size a i r (0 ∷ 0 ∷ 0 ∷ 0 ∷ []) row mem {mode = 0} (eq ∙ sym (filling_place size a r.cl r.wl i f)) (rw (f, b)) ec el (sym (plain_rows codes (0 ∷ 0 ∷ 0 ∷ 0 ∷ []) row l)) et

-- a write as the cycle has it: without fills it takes the vector of its own number
module _ (size a : ℕ) (r : Registers) (vec : ℕ → List ℕ) (i : ℕ) where
  pub plain_at : filling r.cl r.wl ≡ false → (w : Written) → write_vector size a r i (vec i) w ≡ write_at size a r vec i w
  unfolding write_at registers_at fills if
  plain_at f w = rw (f, plain_vectors r.cl r.wl (suc i) f)

  -- where writes fill it takes the last one of those up to it
  pub filling_at : {j : ℕ} → vectors_before r.cl r.wl (suc i) ≡ suc j → (w : Written)
      → write_vector size a (registers_at r i) i (vec j) w ≡ write_at size a r vec i w
  unfolding write_at
  filling_at e w = rw e

  -- and zeros where there is none
  pub unfed_at : vectors_before r.cl r.wl (suc i) ≡ 0 → (w : Written)
      → write_vector size a (registers_at r i) i (0 ∷ 0 ∷ 0 ∷ 0 ∷ []) w ≡ write_at size a r vec i w
  unfolding write_at
  unfed_at e w = rw e

-- one write more, and none left
module _ (size a : ℕ) (r : Registers) (vec : ℕ → List ℕ) (to i : ℕ) where
  pub writes_more : i < to → (w : Written) {x : Written} → x ≡ write_at size a r vec i w
      → writes_from size a r vec (to - (i + 1)) (i + 1) x ≡ writes_from size a r vec (to - i) i w
  unfolding writes_from
  writes_more h w e =
      let n : to - i ≡ suc (to - (i + 1)) = omega arith in
      rw (n, e, add-one)

  pub writes_none : to ≤ i → (w : Written) → writes_from size a r vec (to - i) i w ≡ w
  unfolding writes_from
  writes_none h w = let n : to - i ≡ 0 = omega arith in rw n

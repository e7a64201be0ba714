-- Vectors that are read before they are written, and the words taken by them: `read-writes`, `even-writes`, `vectors-fit`, `words-joined`.
use mathlib.Core.Path.{◌≡◌, refl, sym, ap, ◌∙◌}
use mathlib.Core.Logic.{⊎_elim}
use mathlib.Core.Bool.{Bool, true, false, ◌&&◌}
use mathlib.Core.List.{List, [], ◌∷◌, ◌++◌}
use Prim.Native.Nat.{ℕ, zero, suc, ◌+◌, ◌*◌, ◌-◌, ◌/◌, ◌%◌, ◌^◌, ◌<◌, ◌≤◌, min}
use native.Mathlib.Nat.{add-mul, one-mul, mul-le-mul_left, mul-le-mul_right, div-mul-le_self, mod-lt, eq-or-lt_of_le, div-add-mod', mul-mod_left}
use native.Mathlib.Omega.{arith}
use borrow.Author.Tests.{eqb-true, le-ltb}
use lib.ListN.{length, get_or, set, length-set}
use lib.Dec.{eqb}
use lib.Seq.{get_or-set_other, get_or-set_same}
use Rattle.fields.specs.Memory.{word_at}
use Rattle.fields.proofs.ChoiceLaws.{if_ind, and_left, and_right}
use Rattle.unpack_rules.specs.declared.Format.{Format}
use Rattle.unpack_rules.specs.declared.Unpacking.{Unpacking}
use Rattle.unpack_rules.specs.declared.Registers.{Registers}
use Rattle.unpack_rules.specs.Payload.{element_bits, elements, vector_bits, whole_vectors, is_five}
use Rattle.unpack_rules.specs.Vector.{fields_of, five_fields, vector_at}
use Rattle.unpack_rules.specs.Position.{filling, vectors_before, writes_done, position_of}
use Rattle.unpack_rules.specs.Range.{payload_for, UnpackingFits}
use Rattle.unpack_rules.specs.Write.{Written, written, last_vector, writes_from}
use Rattle.unpack_rules.specs.Step.{taken_words, holds, acting}
use Rattle.unpack_rules.specs.Whole.{words_from, take_words, held_after, store_quadword, taken_by, WordsLeft}
use Rattle.unpack.specs.Short.{stores_from, skipped}
use Rattle.unpack.specs.Vectors.{vector_bytes, vector_in, vector_from, quad_of, vector_of, WritesFit, ReadsFit, VectorsFit}
use Rattle.unpack_rules.proofs.PayloadLaws.{width_of, whole_most}
use Rattle.unpack_rules.proofs.CycleLaws.{plain_vectors, vectors_few, vectors_mono, vectors_zero, done_few, done_below, done_vectors, done_mono}
use Rattle.unpack_rules.proofs.StepLaws.{due_cycle, payload_few}
use Rattle.unpack_rules.proofs.WholeLaws.{whole_mono, same_writes, take_join}
use Rattle.unpack.proofs.CopyLaws.{same_stores, even_place}
use Rattle.unpack.proofs.ShortLaws.{stored_writes, last_is, held_on, words_append, after_words}
use Rattle.unpack.proofs.VectorsLaws.{scaled, begins, vectors_write}

-- ---- a vector has four fields

four_fields : (n x y z w : ℕ) → quad_of (fields_of n x y z w) 0 ≡ fields_of n x y z w
unfolding fields_of quad_of
four_fields n x y z w =
    if_ind (λ (l : List ℕ). quad_of l 0 ≡ l) (eqb n 1) refl
    (if_ind (λ (l : List ℕ). quad_of l 0 ≡ l) (eqb n 2) refl (if_ind (λ (l : List ℕ). quad_of l 0 ≡ l) (eqb n 3) refl refl))

four_five : (h : ℕ) → quad_of (five_fields h) 0 ≡ five_fields h
unfolding five_fields quad_of
four_five h = refl

four_vector : (f : Format) (usn : Bool) (main : List ℕ) (a v i : ℕ) → quad_of (vector_from f usn main a v i) 0 ≡ vector_from f usn main a v i
unfolding vector_from vector_in vector_at
four_vector f usn main a v i = if_ind (λ (l : List ℕ). quad_of l 0 ≡ l) (is_five f) (four_five _) (four_fields _ _ _ _ _)

-- ---- what was stored is read

other : (m : List ℕ) (i j x : ℕ) → (j ≡ i → ⊥) → get_or (set m i x) j 0 ≡ get_or m j 0
other m i j x h = get_or-set_other m i j x 0 h

same : (m : List ℕ) (i x : ℕ) → i < length m → get_or (set m i x) i 0 ≡ x
same m i x h = get_or-set_same m i x 0 h

-- four words stored one after another
module _ (m : List ℕ) (b x y z w : ℕ) where
  four_stored : List ℕ
  four_stored = set (set (set (set m b x) (b + 1) y) (b + 2) z) (b + 3) w

  beside : (j : ℕ) → (j ≡ b → ⊥) → (j ≡ b + 1 → ⊥) → (j ≡ b + 2 → ⊥) → (j ≡ b + 3 → ⊥) → get_or four_stored j 0 ≡ get_or m j 0
  unfolding four_stored
  beside j h0 h1 h2 h3 =
      other (set (set (set m b x) (b + 1) y) (b + 2) z) (b + 3) j w h3 ∙ other (set (set m b x) (b + 1) y) (b + 2) j z h2
      ∙ other (set m b x) (b + 1) j y h1
      ∙ other m b j x h0

  among : b + 4 ≤ length m → (get_or four_stored b 0 ≡ x) × (get_or four_stored (b + 1) 0 ≡ y) × (get_or four_stored (b + 2) 0 ≡ z) × (get_or four_stored (b + 3) 0 ≡ w)
  unfolding four_stored
  among l =
      let m1 = set m b x in
      let m2 = set m1 (b + 1) y in
      let m3 = set m2 (b + 2) z in
      let l1 : length m1 ≡ length m = length-set m b x in
      let l2 : length m2 ≡ length m = length-set m1 (b + 1) y ∙ l1 in
      let l3 : length m3 ≡ length m = length-set m2 (b + 2) z ∙ l2 in (
        other m3 (b + 3) b w (λ e. omega arith) ∙ other m2 (b + 2) b z (λ e. omega arith) ∙ other m1 (b + 1) b y (λ e. omega arith)
            ∙ same m b x (omega arith),
        other m3 (b + 3) (b + 1) w (λ e. omega arith) ∙ other m2 (b + 2) (b + 1) z (λ e. omega arith) ∙ same m1 (b + 1) y (omega arith),
        other m3 (b + 3) (b + 2) w (λ e. omega arith) ∙ same m2 (b + 2) z (omega arith),
        same m3 (b + 3) w (omega arith),
      )

module _ (m x : List ℕ) (q : ℕ) where
  quad_length : length (store_quadword m q x) ≡ length m
  unfolding store_quadword
  quad_length = simp length-set

  quad_there : (p : ℕ) → (p ≡ q → ⊥) → quad_of (store_quadword m q x) p ≡ quad_of m p
  unfolding store_quadword quad_of four_stored
  quad_there p h =
      let at = beside m (4 * q) (get_or x 0 0) (get_or x 1 0) (get_or x 2 0) (get_or x 3 0) in
      rw (at (4 * p) (λ e. h (omega arith)) (λ e. omega arith) (λ e. omega arith) (λ e. omega arith), at (4 * p + 1) (λ e. omega arith) (λ e. h (omega arith)) (λ e. omega arith) (λ e. omega arith), at (4 * p + 2) (λ e. omega arith) (λ e. omega arith) (λ e. h (omega arith)) (λ e. omega arith), at (4 * p + 3) (λ e. omega arith) (λ e. omega arith) (λ e. omega arith) (λ e. h (omega arith)))

  quad_here : 4 * q + 4 ≤ length m → quad_of x 0 ≡ x → quad_of (store_quadword m q x) q ≡ x
  unfolding store_quadword quad_of four_stored
  quad_here l f =
      let a = among m (4 * q) (get_or x 0 0) (get_or x 1 0) (get_or x 2 0) (get_or x 3 0) l in
      rw (a.0, a.1, a.2, a.3) f

-- vectors stored one after another from the first quadword on
module _ (words : ℕ → List ℕ) (four : (j : ℕ) → quad_of (words j) 0 ≡ words j) where
  kept : (n i j : ℕ) (m : List ℕ) → j < i → quad_of (stores_from (λ (k : ℕ). 0 + k) words n i m) j ≡ quad_of m j
  unfolding stores_from
  kept zero i j m h = refl
  kept (suc n) i j m h = kept n (suc i) j _ (omega arith) ∙ quad_there m (words i) (0 + i) j (λ e. omega arith)

  read : (n i j : ℕ) (m : List ℕ) → i ≤ j → j < i + n → 4 * (i + n) ≤ length m → quad_of (stores_from (λ (k : ℕ). 0 + k) words n i m) j ≡ words j
  unfolding stores_from
  read zero i j m h l z = absurd (omega arith)
  read (suc n) i j m h l z =
      let y = quad_length m (words i) (0 + i) in
      ⊎_elim (λ e. here e) (λ b. read n (suc i) j _ b (omega arith) (omega arith)) (eq-or-lt_of_le h)
    where
      here : i ≡ j → quad_of (stores_from (λ (k : ℕ). 0 + k) words n (suc i) (store_quadword m (0 + i) (words i))) j ≡ words j
      here e =
          kept n (suc i) j _ (omega arith)
          ∙ (let q : 0 + i ≡ j = omega arith in rw (q, e) (quad_here m (words j) j (omega arith) (four j)))

-- ---- writes of vectors read

-- where a write takes a vector CL is not 0
begins_cycle : {size address cl wl first last : ℕ} {mem : List ℕ} → WritesFit size address cl wl first last mem → 1 ≤ cl
begins_cycle {cl = cl} {wl} {first} x = go cl refl
  where
    go : (c : ℕ) → cl ≡ c → 1 ≤ cl
    go zero e =
        let z = vectors_zero cl wl e x.cycle.some (suc first) in
        let b = x.begins in
        absurd (omega arith)
    go (suc c) e = omega arith

module _ (f : Format) (usn : Bool) (r : Registers) (main : List ℕ) (a size address first last n : ℕ) {mem : List ℕ}
    (x : WritesFit size address r.cl r.wl first last mem) (y : ReadsFit f r.cl r.wl first last n a main) where
  abbrev low : ℕ
  low = vectors_before r.cl r.wl first

  module _ (xs zeros : List ℕ) (ex : xs ≡ stores_from (λ (k : ℕ). 0 + k) (vector_from f usn main a 0) n 0 zeros) (long : 4 * n ≤ length zeros) where
    read_vector : (v : ℕ) → v - low < n → quad_of xs (v - low) ≡ vector_from f usn main a low v
    unfolding vector_from
    read_vector v h =
        let z : v - low - 0 ≡ v - low = omega arith in
        let e : quad_of (stores_from (λ (k : ℕ). 0 + k) (vector_from f usn main a 0) n 0 zeros) (v - low) ≡ vector_from f usn main a 0 (v - low) = read (vector_from f usn main a 0) (four_vector f usn main a 0) n 0 (v - low) zeros (omega arith) (omega arith) (omega arith) in
        rw (ex, e, z)

    same_read : (j : ℕ) → first ≤ j → j < last
        → last_vector (λ (v : ℕ). quad_of xs (v - low)) (vectors_before r.cl r.wl (suc j)) ≡ last_vector (vector_from f usn main a low) (vectors_before r.cl r.wl (suc j))
    same_read j h l =
        let c = x.cycle.some in
        let b = x.begins in
        let e1 : suc first + (j - first) ≡ suc j = omega arith in
        let e2 : suc j + (last - suc j) ≡ last = omega arith in
        let m1 = rw e1 at (vectors_mono r.cl r.wl c (suc first) (j - first)) in
        let m2 = rw e2 at (vectors_mono r.cl r.wl c (suc j) (last - suc j)) in
        go (vectors_before r.cl r.wl (suc j)) (omega arith) m2
      where
        go : (v : ℕ) → low < v → v ≤ vectors_before r.cl r.wl last
            → last_vector (λ (v : ℕ). quad_of xs (v - low)) v ≡ last_vector (vector_from f usn main a low) v
        go zero b t = absurd (omega arith)
        go (suc v) b t = read_vector v (let k = y.taken in omega arith)

    pub read_writes : (w : Written) {o : Written} → o ≡ writes_from size address r (λ (v : ℕ). quad_of xs (v - vectors_before r.cl r.wl first)) (last - first) first w
        → o ≡ writes_from size address r (vector_from f usn main a (vectors_before r.cl r.wl first)) (last - first) first w
    read_writes w e =
        e ∙ same_writes size address r _ (vector_from f usn main a low) (last - first) first w (λ j b t. same_read j b (let s = x.some in omega arith))

    -- without codes and MODE they are stored
    pub read_stores : (row : List ℕ) {m : List ℕ} → length row ≡ 4 → eqb r.mode 0 && eqb r.mask 0 ≡ true
        → m ≡ stores_from (position_of size address r.cl r.wl) (vector_of xs r.cl r.wl first) (last - first) first mem
        → written row m ≡ writes_from size address r (vector_from f usn main a (vectors_before r.cl r.wl first)) (last - first) first (written row mem)
    unfolding vector_of
    read_stores row h b e =
        let hm = eqb-true r.mode 0 (and_left _ _ b) in
        let hk = eqb-true r.mask 0 (and_right (eqb r.mode 0) _ b) in
        let vec : ℕ → List ℕ = λ (v : ℕ). quad_of xs (v - low) in
        read_writes (written row mem)
        (rw e (ap (written row) (same_stores _ _ _ _ (last - first) first mem (λ j. refl) (λ j. sym (last_is r.cl r.wl (begins_cycle x) x.cycle.some vec j ∙ ap (quad_of xs) (omega arith)))))
        ∙ sym (stored_writes size address r hm hk vec (last - first) first (written row mem) h))

  -- CL = WL: quadwords one after another
  pub even_inside : r.cl ≡ r.wl → a + vector_bytes f * (last - first) + 4 ≤ length main
  even_inside e =
      let q : filling r.cl r.wl ≡ false = le-ltb r.cl r.wl (omega arith) in
      let t = rw (plain_vectors r.cl r.wl first q, plain_vectors r.cl r.wl last q) at y.taken in
      let m = mul-le-mul_left (vector_bytes f) t in
      let l = y.lies in
      omega arith

  pub even_writes : (row : List ℕ) {m : List ℕ} → length row ≡ 4 → r.cl ≡ r.wl → eqb r.mode 0 && eqb r.mask 0 ≡ true
      → m ≡ stores_from (λ (i : ℕ). (address + i) % size) (vector_from f usn main a first) (last - first) first mem
      → written row m ≡ writes_from size address r (vector_from f usn main a (vectors_before r.cl r.wl first)) (last - first) first (written row mem)
  even_writes row h c b e =
      let hm = eqb-true r.mode 0 (and_left _ _ b) in
      let hk = eqb-true r.mask 0 (and_right (eqb r.mode 0) _ b) in
      let q : filling r.cl r.wl ≡ false = le-ltb r.cl r.wl (omega arith) in
      let k = plain_vectors r.cl r.wl first q in
      rw (e, k)
      (ap (written row) (same_stores _ _ _ _ (last - first) first mem (λ j. rw (← c) (even_place size address r.cl j)) (λ j. rw (plain_vectors r.cl r.wl (suc j) q)))
      ∙ sym (stored_writes size address r hm hk (vector_from f usn main a first) (last - first) first (written row mem) h))

-- ---- words with the first of which a vector begins

whole_inside : (f : Format) (v k : ℕ) → whole_vectors f v k * vector_bits f ≤ 32 * k
unfolding whole_vectors
whole_inside f v k =
    let m = mul-le-mul_right {m = min v (32 * k / vector_bits f)} {n = 32 * k / vector_bits f} (vector_bits f) (omega arith) in
    let d = div-mul-le_self (32 * k) (vector_bits f) in
    omega arith

-- their bytes are no more than those of the words
vectors_inside : (f : Format) (a n k from to len : ℕ) → from ≤ to → 32 * k ≡ from * vector_bits f → to * vector_bits f ≤ 32 * (k + n)
    → a + 4 * n + 4 ≤ len → a + vector_bytes f * (to - from) + 4 ≤ len
unfolding vector_bytes vector_bits
vectors_inside f a n k from to len o b l y =
    let e : from + (to - from) ≡ to = omega arith in
    let g = rw e at (add-mul from (to - from) (elements f * element_bits f)) in
    let s = scaled (width_of f) (elements f) (to - from) in
    omega arith

pub record Counted (size : ℕ) (f : Format) (u : Unpacking) (r : Registers) (a : ℕ) (main mem : List ℕ) (k from to first last : ℕ) : Type 0 where
  pub writes : WritesFit size u.address r.cl r.wl first last mem
  pub reads : ReadsFit f r.cl r.wl first last (to - from) a main
  pub here : vectors_before r.cl r.wl first ≡ from
  pub bit : 32 * k ≡ from * vector_bits f

module _ {size : ℕ} {f : Format} {u : Unpacking} {r : Registers} {a n : ℕ} {main mem : List ℕ} (x : VectorsFit size f u r a n main mem) where
  pub taken_below : taken_words f r u < payload_for f r.cl r.wl u.count
  unfolding taken_words
  taken_below = let m = x.unpacking.most in let l = x.unpacking.left in omega arith

  pub words_most : taken_words f r u + n < 1024
  unfolding taken_words
  words_most =
      let m = x.unpacking.most in
      let p = payload_few f r.cl r.wl u.count x.unpacking.few in
      let l = x.fewer in
      omega arith

  pub fed : 1 ≤ r.cl
  fed = due_cycle f r.cl r.wl u x.cycle.some x.unpacking

  -- no more vectors than writes
  pub vectors_most : (k : ℕ) {v from : ℕ} → v ≡ vectors_before r.cl r.wl u.count → from ≡ whole_vectors f v k → (from ≤ u.count) × (from ≤ 256)
  vectors_most k {v} ev ef =
      let m = whole_most f v k in
      let y = vectors_few r.cl r.wl u.count in
      let q = x.unpacking.few in
      (omega arith, omega arith)

  pub vectors_ordered : {k from to : ℕ} → k ≡ taken_words f r u → from ≡ whole_vectors f (vectors_before r.cl r.wl u.count) k
      → to ≡ whole_vectors f (vectors_before r.cl r.wl u.count) (k + n) → from ≤ to
  vectors_ordered {k} ek ef et = let m = whole_mono f (vectors_before r.cl r.wl u.count) k (k + n) (omega arith) in omega arith

  pub vectors_fit : {k from to first last : ℕ} → k ≡ taken_words f r u → from ≡ whole_vectors f (vectors_before r.cl r.wl u.count) k
      → to ≡ whole_vectors f (vectors_before r.cl r.wl u.count) (k + n) → first ≡ writes_done r.cl r.wl from u.count
      → last ≡ writes_done r.cl r.wl to u.count
      → Counted size f u r a main mem k from to first last
  vectors_fit {k} {from} {to} ek ef et e1 e2 =
      let c = x.cycle.some in
      let v = vectors_before r.cl r.wl u.count in
      let t = taken_below in
      let g = begins f v k (rw ek x.begins) (rw ek t) in
      let b : 32 * k ≡ from * vector_bits f = rw ef g.bit in
      let d = done_vectors r.cl r.wl u.count c from (rw ef g.more) in
      let o = vectors_ordered ek ef et in
      let w = done_below r.cl r.wl u.count c to in
      let m = done_mono r.cl r.wl c from to u.count o in
      let p = done_few r.cl r.wl c to u.count in
      let q = x.unpacking.few in
      let y = vectors_few r.cl r.wl u.count in
      let z = whole_most f v (k + n) in
      let df = d.few in
      let dh = d.here in
      record {
        writes =
            record {
              cycle = x.cycle;
              memory = x.memory;
              inside = x.unpacking.inside;
              some = rw (e1, e2) m;
              small = rw e1 (omega arith);
              few = rw e2 (omega arith);
              begins = rw e1 (d.next ∙ ap suc (sym dh));
            };
        reads = record { taken = rw (e1, e2, dh) (omega arith); most = omega arith; lies = vectors_inside f a n k from to (length main) o b (rw et (whole_inside f v (k + n))) x.lies };
        here = rw e1 dh;
        bit = b;
      }

  -- what the writes of its registers leave is what the words leave
  pub vectors_taken : {k from to first last : ℕ} → k ≡ taken_words f r u → from ≡ whole_vectors f (vectors_before r.cl r.wl u.count) k
      → to ≡ whole_vectors f (vectors_before r.cl r.wl u.count) (k + n) → first ≡ writes_done r.cl r.wl from u.count
      → last ≡ writes_done r.cl r.wl to u.count → ((j : ℕ) → get_or main j 0 < 256) → u.first < 2 ^ 32 → u.second < 2 ^ 32 → u.third < 2 ^ 32
      → {s : Registers} → s ≡ acting f u r → (w : Written) {o : Written}
      → o ≡ writes_from size u.address s (vector_from f u.usn main a (vectors_before s.cl s.wl first)) (last - first) first w
      → o ≡ take_words size f u r (words_from main a n) w
  unfolding acting
  vectors_taken {k} {from} {to} {first} {last} ek ef et e1 e2 bytes h1 h2 h3 es w eo =
      let c = vectors_fit ek ef et e1 e2 in
      let l = x.fewer in
      eo
      ∙ rw (es, c.here)
      (sym (vectors_write size f u r main bytes a n k from to first last x.cycle.some h1 h2 h3 (sym ek) c.bit et e1 e2 w x.unpacking.most (omega arith) ef))

-- ---- words up to one with which a vector begins, and those from it on

pub words_over : (k n : ℕ) → 1 ≤ n → (k + (n - k % n)) % n ≡ 0
words_over k n h =
    let d = div-add-mod' k n in
    let m = mod-lt k h in
    let g = add-mul (k / n) 1 n in
    let o = one-mul n in
    let e : k + (n - k % n) ≡ (k / n + 1) * n = omega arith in
    rw e (mul-mod_left (k / n + 1) n)

pub words_short : (k : ℕ) {n m : ℕ} → n ≡ m → 1 ≤ m → m ≤ 4 → (k % n ≡ 0 → ⊥) → ((k + (n - k % n)) % m ≡ 0) × (n - k % n < 4)
words_short k {n} e h l z = rw (← e) (words_over k n (omega arith), small (k % n) z)
  where
    small : (j : ℕ) → (j ≡ 0 → ⊥) → n - j < 4
    small j z = omega arith

held_join : (u : Unpacking) (ws vs : List ℕ) → held_after u (ws ++ vs) ≡ held_after (held_after u ws) vs
unfolding held_after
held_join u [] vs = refl
held_join u (x ∷ ws) vs = held_join (holds u x) ws vs

module _ (size : ℕ) (f : Format) (u : Unpacking) (r : Registers) (main : List ℕ) (a k n : ℕ) (w : Written) {begun : WordsLeft} (eb : begun ≡ taken_by size f u r (words_from main a k) w) where
  begun_rest : begun.rest ≡ held_after u (words_from main a k)
  unfolding taken_by
  begun_rest = ap (λ (z : WordsLeft). z.rest) eb

  begun_written : written begun.row begun.mem ≡ take_words size f u r (words_from main a k) w
  unfolding taken_by
  begun_written = ap (λ (z : WordsLeft). written z.row z.mem) eb

  -- what waits after the first of them
  module _ (x : UnpackingFits f r.cl r.wl u) (l : k < u.due) where
    pub begun_fits : UnpackingFits f r.cl r.wl begun.rest
    begun_fits =
        let i = after_words main k a u (omega arith) in
        let d = i.3 in
        let m = x.most in
        rw begun_rest
        (record {
          inside = rw i.0 x.inside;
          some = rw i.1 x.some;
          few = rw i.1 x.few;
          left = omega arith;
          most = rw i.1 (omega arith);
        })

    pub begun_due : begun.rest.due + k ≡ u.due
    begun_due = rw begun_rest (after_words main k a u (omega arith)).3

    pub begun_taken : taken_words f r begun.rest ≡ taken_words f r u + k
    unfolding taken_words
    begun_taken =
        let i = after_words main k a u (omega arith) in
        let d = i.3 in
        let m = x.most in
        rw (begun_rest, i.1) (omega arith)

  -- all of them
  pub words_joined : k + 3 ≤ n → {o : Written} {b : ℕ} → b ≡ a + 4 * k → o ≡ take_words size f begun.rest r (words_from main b (n - k)) (written begun.row begun.mem)
      → {rest : Unpacking}
      → rest ≡ skipped begun.rest (n - k) (word_at main (a + 4 * n - 12)) (word_at main (a + 4 * n - 8)) (word_at main (a + 4 * n - 4))
      → ◌≡◌ {A = WordsLeft} (record { accepted = true; row = o.row; mem = o.mem; rest = rest }) (taken_by size f u r (words_from main a n) w)
  unfolding taken_by
  words_joined l {o} ea eo er =
      let e : k + (n - k) ≡ n = omega arith in
      let s = rw e at (words_append main k (n - k) a) in
      let g : n - k - 3 + 3 ≡ n - k = omega arith in
      let b1 : a + 4 * k + 4 * (n - k - 3) ≡ a + 4 * n - 12 = omega arith in
      let b2 : a + 4 * n - 12 + 4 ≡ a + 4 * n - 8 = omega arith in
      let b3 : a + 4 * n - 12 + 8 ≡ a + 4 * n - 4 = omega arith in
      let t = rw (g, b1, b2, b3) at (held_on main (n - k - 3) (a + 4 * k) begun.rest) in
      let p : o ≡ take_words size f u r (words_from main a n) w = rw (ea, begun_rest, begun_written) at eo ∙ sym (rw s (take_join size f u r (words_from main a k) (words_from main (a + 4 * k) (n - k)) w)) in
      let h : rest_of ≡ held_after u (words_from main a n) = sym (rw s (held_join u (words_from main a k) (words_from main (a + 4 * k) (n - k)))) in
      rw (p, er, ← t, begun_rest, h)
    where
      rest_of : Unpacking
      rest_of = held_after (held_after u (words_from main a k)) (words_from main (a + 4 * k) (n - k))

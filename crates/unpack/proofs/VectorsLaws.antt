-- Whole vectors read where they lie in main memory: `vectors-write`, what words of main memory from a vector's start on write.
use mathlib.Core.Path.{◌≡◌, refl, sym, ap, ◌∙◌}
use mathlib.Core.Bool.{Bool, true, false, ◌&&◌}
use mathlib.Core.List.{List, [], ◌∷◌}
use Prim.Native.Nat.{ℕ, zero, suc, ◌+◌, ◌*◌, ◌-◌, ◌/◌, ◌%◌, ◌^◌, ◌<◌, ◌≤◌, min}
use native.Mathlib.Nat.{add-zero, mul_assoc, mul_comm, mul_left_comm, add-mul, mul-le-mul_left, mul-le-mul_right, suc-mul, mul-suc, div-one, div-add-mod', zero-mod, mul-div_cancel, lt_of_mul-lt-mul_right, mul-add, mul-one, one-mul, sub-zero, mul-zero, mod-lt}
use native.Mathlib.Omega.{arith}
use borrow.Author.Tests.{leb-true, leb-false}
use lib.ListN.{length, get_or}
use lib.Dec.{leb}
use lib.Seq.{get_or-set_other}
use Rattle.fields.specs.Fields.{if}
use Rattle.fields.specs.Memory.{word_at}
use Rattle.unpack_rules.specs.declared.Format.{Format}
use Rattle.unpack_rules.specs.declared.Unpacking.{Unpacking}
use Rattle.unpack_rules.specs.declared.Registers.{Registers}
use Rattle.unpack_rules.specs.Payload.{element_bits, elements, vector_bits, payload_words, value, whole_vectors}
use Rattle.unpack_rules.specs.Vector.{element, extended, extended_at, vector_at}
use Rattle.unpack_rules.specs.Position.{filling, fills, vectors_before, writes_done}
use Rattle.unpack_rules.specs.Mask.{row_of_cycle}
use Rattle.unpack_rules.specs.Range.{payload_for}
use Rattle.unpack_rules.specs.Write.{field_of, put_field, written_at, Written, write_vector, registers_at, last_vector, write_at, writes_from}
use Rattle.unpack_rules.specs.Step.{taken_words, acting, done_after}
use Rattle.unpack_rules.specs.Inner.{Width, eight, sixteen, whole}
use Rattle.unpack_rules.specs.Whole.{words_from, take_words, store_quadword}
use Rattle.unpack.specs.Short.{stores_from}
use Rattle.unpack.specs.Vectors.{Scalar, vector_bytes, vector_in, vector_from, quad_of, vector_of, fields_after, WritesFit}
use Rattle.unpack_rules.proofs.PayloadLaws.{width_of, few_elements, bits_most, bits_some, next_mul, inside_words}
use Rattle.unpack_rules.proofs.CycleLaws.{done_few, done_exactly, vectors_few}
use Rattle.unpack_rules.proofs.WriteLaws.{filling_at}
use Rattle.unpack_rules.proofs.VectorLaws.{Words, none, more, element_word, element_on, width_power, shifted as power}
use Rattle.unpack_rules.proofs.WholeLaws.{same_vector, same_place, same_writes, words_write}
use Rattle.unpack.proofs.CopyLaws.{stores_join, moved_stores, places_follow}
use Rattle.unpack.proofs.ShortLaws.{word_below}

-- ---- an element of words of main memory is one at its byte

words_at_lem : (main : List ℕ) (n a j : ℕ) → j < n → get_or (words_from main a n) j 0 ≡ word_at main (a + 4 * j)
unfolding words_from
words_at_lem main zero a j h = absurd (omega arith)
words_at_lem main (suc n) a zero h = let e : a + 4 * 0 ≡ a = omega arith in rw e
words_at_lem main (suc n) a (suc j) h =
    let e : a + 4 * suc j ≡ a + 4 + 4 * j = omega arith in
    rw e (words_at_lem main n (a + 4) j (omega arith))

words_length : (main : List ℕ) (n a : ℕ) → length (words_from main a n) ≡ n
unfolding words_from
words_length main zero a = refl
words_length main (suc n) a = ap suc (words_length main n (a + 4))

lane : {w : ℕ} → Width w → (b : ℕ) → b % w ≡ 0 → (b % 32 + w ≤ 32) × (b % 32 % w ≡ 0) × (b + w ≤ 32 * (b / 32) + 32)
lane eight b h = (omega arith, omega arith, omega arith)
lane sixteen b h = (omega arith, omega arith, omega arith)
lane whole b h = (omega arith, omega arith, omega arith)

multiple : {w : ℕ} → Width w → (at e : ℕ) → at % w ≡ 0 → (at + e * w) % w ≡ 0
multiple eight at e h = omega arith
multiple sixteen at e h = omega arith
multiple whole at e h = omega arith

-- a vector's bytes
pub scaled : {w : ℕ} → Width w → (m i : ℕ) → m * w / 8 * i ≡ i * (m * w) / 8
scaled {w} k m i = rw (← mul_assoc i m w) (go k)
  where
    by : (b : ℕ) → m * b * i ≡ i * m * b
    by b = mul_comm (m * b) i ∙ sym (mul_assoc i m b)

    go : {w : ℕ} → Width w → m * w / 8 * i ≡ i * m * w / 8
    go eight =
        let c : m * 8 / 8 ≡ m * 1 = omega arith in
        rw (c, by 1) (omega arith)
    go sixteen =
        let c : m * 16 / 8 ≡ m * 2 = omega arith in
        rw (c, by 2) (omega arith)
    go whole =
        let c : m * 32 / 8 ≡ m * 4 = omega arith in
        rw (c, by 4) (omega arith)

-- where its elements lie
places : {w : ℕ} → Width w → (m i e : ℕ) → (i * (m * w) % w ≡ 0) × ((i * (m * w) + e * w) / 8 ≡ i * (m * w) / 8 + (0 + e * w) / 8)
places {w} k m i e = rw (← mul_assoc i m w) (go k (i * m))
  where
    go : {w : ℕ} → Width w → (j : ℕ) → (j * w % w ≡ 0) × ((j * w + e * w) / 8 ≡ j * w / 8 + (0 + e * w) / 8)
    go eight j = (omega arith, omega arith)
    go sixteen j = (omega arith, omega arith)
    go whole j = (omega arith, omega arith)

module _ (main : List ℕ) (bytes : (k : ℕ) → get_or main k 0 < 256) where
  pub words_below : (n a : ℕ) → Words (words_from main a n)
  unfolding words_from
  words_below zero a = none
  words_below (suc n) a = more (word_below main bytes a) (words_below n (a + 4))

  -- the bytes of a word from one of them on, where an element can begin
  module _ (a : ℕ) where
    byte_on : (s : ℕ) → s < 4 → word_at main a / 2 ^ (8 * s) % 2 ^ 8 ≡ word_at main (a + s) % 2 ^ 8
    unfolding word_at
    byte_on zero h = let e : a + 0 ≡ a = omega arith in rw e (omega arith)
    byte_on (suc zero) h = omega (arith, bytes a, bytes (a + 1), bytes (a + 2), bytes (a + 3))
    byte_on (suc (suc zero)) h = omega (arith, bytes a, bytes (a + 1), bytes (a + 2), bytes (a + 3))
    byte_on (suc (suc (suc zero))) h = omega (arith, bytes a, bytes (a + 1), bytes (a + 2), bytes (a + 3))
    byte_on (suc (suc (suc (suc s)))) h = absurd (omega arith)

    half_on : (s : ℕ) → s < 2 → word_at main a / 2 ^ (16 * s) % 2 ^ 16 ≡ word_at main (a + 2 * s) % 2 ^ 16
    unfolding word_at
    half_on zero h = let e : a + 2 * 0 ≡ a = omega arith in rw e (omega arith)
    half_on (suc zero) h =
        let e : a + 2 + 1 ≡ a + 3 = omega arith in
        rw e (omega (arith, bytes a, bytes (a + 1), bytes (a + 2), bytes (a + 3)))
    half_on (suc (suc s)) h = absurd (omega arith)

  part_on : {w : ℕ} → Width w → (a b : ℕ) → b % w ≡ 0 → b < 32 → word_at main a / 2 ^ b % 2 ^ w ≡ word_at main (a + b / 8) % 2 ^ w
  part_on eight a b h l = let e : 8 * (b / 8) ≡ b = omega arith in rw e at (byte_on a (b / 8) (omega arith))
  part_on sixteen a b h l =
      let e : 16 * (b / 16) ≡ b = omega arith in
      let d : 2 * (b / 16) ≡ b / 8 = omega arith in
      rw (e, d) at (half_on a (b / 16) (omega arith))
  part_on whole a b h l =
      let e : b ≡ 0 = omega arith in
      let d : a + 0 / 8 ≡ a = omega arith in
      rw (e, d, div-one)

  pub element_from : {w : ℕ} → Width w → (n a at e : ℕ) → at % w ≡ 0 → at + e * w + w ≤ 32 * n
      → element w (value (words_from main a n)) at e ≡ word_at main (a + (at + e * w) / 8) % 2 ^ w
  element_from {w} k n a at e h l =
      let b = at + e * w in
      let m = multiple k at e h in
      let y = lane k b m in
      let x = element_word (words_below n a) w b y.0 in
      let i : a + 4 * (b / 32) + b % 32 / 8 ≡ a + b / 8 = omega arith in
      sym (element_on w (value (words_from main a n)) at e b refl) ∙ sym x
      ∙ rw (words_at_lem main n a (b / 32) (inside k b m l), part_on k (a + 4 * (b / 32)) (b % 32) y.1 (omega arith), i)
    where
      inside : {w : ℕ} → Width w → (b : ℕ) → b % w ≡ 0 → b + w ≤ 32 * n → b / 32 < n
      inside eight b h l = omega arith
      inside sixteen b h l = omega arith
      inside whole b h l = omega arith

  -- ---- so a vector of them is the one at its byte

  pub vector_from_lem : (f : Format) (usn : Bool) (n a i : ℕ) → (i + 1) * vector_bits f ≤ 32 * n
      → vector_at f usn (value (words_from main a n)) (i * vector_bits f) ≡ vector_in f usn main (a + vector_bytes f * i)
  unfolding vector_in vector_bytes vector_bits
  vector_from_lem f usn n a i l = same_vector f usn _ _ _ _ same
    where
      same : (e : ℕ) → e < elements f
          → element (element_bits f) (value (words_from main a n)) (i * (elements f * element_bits f)) e
          ≡ element (element_bits f) (value (words_from main (a + elements f * element_bits f / 8 * i) 4)) 0 e
      same e h =
          let k = width_of f in
          let p = places k (elements f) i e in
          let m = mul-le-mul_right {m = suc e} {n = elements f} (element_bits f) h in
          let t : suc e * element_bits f ≡ e * element_bits f + element_bits f = suc-mul e (element_bits f) in
          let b = bits_most f in
          let x = next_mul i (elements f * element_bits f) in
          let c : a + (i * (elements f * element_bits f) + e * element_bits f) / 8 ≡ a + i * (elements f * element_bits f) / 8 + (0 + e * element_bits f) / 8 = omega (arith, p.1) in
          element_from k n a (i * (elements f * element_bits f)) e p.0 (omega arith)
          ∙ rw (c, scaled k (elements f) i) (sym (element_from k 4 (a + i * (elements f * element_bits f) / 8) 0 e (zero-mod (element_bits f)) (omega arith)))

-- ---- words before them

-- three words more below
shifted : (w x y z t e : ℕ) (ws : List ℕ) → x < 2 ^ 32 → y < 2 ^ 32 → z < 2 ^ 32
    → element w (value (x ∷ y ∷ z ∷ ws)) (t + 96) e ≡ element w (value ws) t e
unfolding element
shifted w x y z t e ws hx hy hz =
    rw (same_place 0 (value (x ∷ y ∷ z ∷ ws)) (x + 2 ^ 32 * (y + 2 ^ 32 * z)) (value ws) 96 (t + 96 + e * w) (t + e * w) (omega arith) (omega arith) (omega arith))

-- ---- a word at which a vector begins

module _ (f : Format) where
  -- as many words as a vector has elements hold whole vectors
  group : (q : ℕ) → 32 * (q * elements f) ≡ q * (32 / element_bits f) * vector_bits f
  unfolding vector_bits
  group q = go (width_of f)
    where
      by : (c b : ℕ) → c * b ≡ 32 → 32 * (q * elements f) ≡ q * c * (elements f * b)
      by c b h =
          let m : q * c * (elements f * b) ≡ q * elements f * (c * b) = mul_assoc q c (elements f * b) ∙ rw (mul_left_comm c (elements f) b) (sym (mul_assoc q (elements f) (c * b))) in
          rw (m, h) (mul_comm 32 (q * elements f))

      go : {w : ℕ} → Width w → 32 * (q * elements f) ≡ q * (32 / w) * (elements f * w)
      go eight = by 4 8 refl
      go sixteen = by 2 16 refl
      go whole = by 1 32 refl

  pub record Begins (n k : ℕ) : Type 0 where
    pub bit : 32 * k ≡ whole_vectors f n k * vector_bits f
    pub more : whole_vectors f n k < n

  pub begins : (n k : ℕ) → k % elements f ≡ 0 → k < payload_words f n → Begins n k
  unfolding whole_vectors payload_words
  begins n k h l =
      let d = div-add-mod' k (elements f) in
      let q : k / elements f * elements f ≡ k = omega arith in
      let v = k / elements f * (32 / element_bits f) in
      let g : 32 * k ≡ v * vector_bits f = rw q at (group (k / elements f)) in
      let b = bits_some f in
      let x : v * vector_bits f < n * vector_bits f = omega arith in
      let y : v < n = lt_of_mul-lt-mul_right (vector_bits f) x in
      let z : 32 * k / vector_bits f ≡ v = rw g (mul-div_cancel v b) in
      let m : min n (32 * k / vector_bits f) ≡ v = rw z (omega arith) in
      record { bit = rw m g; more = rw m y }

-- ---- the words from there on make the writes of their whole vectors, and of the fills after them

module _ (size : ℕ) (f : Format) (u : Unpacking) (r : Registers) (main : List ℕ) (bytes : (k : ℕ) → get_or main k 0 < 256) (a n k v to first last : ℕ) (c : 1 ≤ r.wl)
    (h1 : u.first < 2 ^ 32) (h2 : u.second < 2 ^ 32) (h3 : u.third < 2 ^ 32) (ek : taken_words f r u ≡ k) (bit : 32 * k ≡ v * vector_bits f)
    (et : to ≡ whole_vectors f (vectors_before r.cl r.wl u.count) (k + n)) (ef : first ≡ writes_done r.cl r.wl v u.count)
    (el : last ≡ writes_done r.cl r.wl to u.count) where
  -- vector i of those
  same_from : (i : ℕ) → v ≤ i → (i + 1) * vector_bits f ≤ 32 * (k + n)
      → vector_at f u.usn (value (u.first ∷ u.second ∷ u.third ∷ words_from main a n)) (i * vector_bits f + 96 - 32 * k) ≡ vector_from f u.usn main a v i
  unfolding vector_from
  same_from i l m =
      let e : v + (i - v) ≡ i = omega arith in
      let g : (v + (i - v)) * vector_bits f ≡ v * vector_bits f + (i - v) * vector_bits f = add-mul v (i - v) (vector_bits f) in
      let g2 : i * vector_bits f ≡ v * vector_bits f + (i - v) * vector_bits f = rw e at g in
      let p : i * vector_bits f + 96 - 32 * k ≡ (i - v) * vector_bits f + 96 = omega arith in
      let x = next_mul i (vector_bits f) in
      let y = next_mul (i - v) (vector_bits f) in
      rw p
      (same_vector f u.usn _ _ _ _ (λ e l. shifted (element_bits f) u.first u.second u.third ((i - v) * vector_bits f) e (words_from main a n) h1 h2 h3)
      ∙ vector_from_lem main bytes f u.usn n a (i - v) (omega arith))

  -- the vector of a write
  same_write : (j : ℕ) → first ≤ j → j < last
      → last_vector (λ i. vector_at f u.usn (value (u.first ∷ u.second ∷ u.third ∷ words_from main a n)) (i * vector_bits f + 96 - 32 * k)) (vectors_before r.cl r.wl (suc j))
      ≡ last_vector (vector_from f u.usn main a v) (vectors_before r.cl r.wl (suc j))
  same_write j l m =
      let few = done_few r.cl r.wl c to u.count in
      let d = (done_exactly r.cl r.wl c to u.count j (omega arith)).0 (omega arith) in
      let b = after (leb (vectors_before r.cl r.wl (suc j)) v) refl in
      by (vectors_before r.cl r.wl (suc j)) b d
    where
      after : (t : Bool) → leb (vectors_before r.cl r.wl (suc j)) v ≡ t → v < vectors_before r.cl r.wl (suc j)
      after false e = leb-false _ _ e
      after true e =
          let few = done_few r.cl r.wl c to u.count in
          let d = (done_exactly r.cl r.wl c v u.count j (omega arith)).1 (leb-true _ _ e) in
          absurd (omega arith)

      by : (x : ℕ) → v < x → x ≤ to
          → last_vector (λ i. vector_at f u.usn (value (u.first ∷ u.second ∷ u.third ∷ words_from main a n)) (i * vector_bits f + 96 - 32 * k)) x
          ≡ last_vector (vector_from f u.usn main a v) x
      by zero b d = absurd (omega arith)
      by (suc i) b d = same_from i (omega arith) (inside_words f (vectors_before r.cl r.wl u.count) (k + n) i (rw et at d))

  pub vectors_write : (w : Written) → u.due ≤ payload_for f r.cl r.wl u.count → n ≤ u.due
      → v ≡ whole_vectors f (vectors_before r.cl r.wl u.count) k
      → take_words size f u r (words_from main a n) w
      ≡ writes_from size u.address (acting f u r) (vector_from f u.usn main a v) (last - first) first w
  unfolding done_after acting
  vectors_write w m l ev =
      let e : length (words_from main a n) ≡ n = words_length main n a in
      words_write size f u r (words_from main a n) w c (more h1 (more h2 (more h3 (words_below main bytes n a)))) m (rw e l) ek
      ∙ rw (e, ← et, ← ev, ← ef, ← el)
      (same_writes size u.address (acting f u r) _ (vector_from f u.usn main a v) (last - first) first w (λ j b t. same_write j b (omega arith)))

-- ---- what the code reads

pub cut : {w : ℕ} → Width w → (x : ℕ) {y : ℕ} → y ≡ x → (y % (1 * 2 ^ w % 2 ^ 64) ≡ x % 2 ^ w) × (y % (1 * 2 ^ w % 2 ^ 64) < 2 ^ w)
cut k x e = rw (power k, e) (refl, mod-lt x (width_power k).0)

module _ (f : Format) (usn : Bool) (main : List ℕ) (bytes : (k : ℕ) → get_or main k 0 < 256) (at : ℕ) {width : ℕ} (ew : width ≡ element_bits f) where
  eighths : {w : ℕ} → Width w → (e : ℕ) → (0 + e * w) / 8 ≡ e * (w / 8)
  eighths eight e = omega arith
  eighths sixteen e = omega arith
  eighths whole e = omega arith

  element_in : (e : ℕ) → e < elements f → element (element_bits f) (value (words_from main at 4)) 0 e ≡ word_at main (at + e * (element_bits f / 8)) % 2 ^ element_bits f
  unfolding vector_bits
  element_in e h =
      let k = width_of f in
      let b = bits_most f in
      let m = mul-le-mul_right {m = suc e} {n = elements f} (element_bits f) h in
      let t : suc e * element_bits f ≡ e * element_bits f + element_bits f = suc-mul e (element_bits f) in
      element_from main bytes k 4 at 0 e (zero-mod (element_bits f)) (omega arith) ∙ rw (eighths k e)

  pub part_in : (e : ℕ) → e < elements f → (b x : ℕ) → b ≡ at + e * (width / 8) → x ≡ extended width usn (word_at main b % 2 ^ width)
      → x ≡ extended_at f usn (value (words_from main at 4)) 0 e
  part_in e h b x eb ex = ex ∙ rw (eb, ew, element_in e h)

  pub five_in : {x : ℕ} → x ≡ word_at main at % 2 ^ width → x ≡ element (element_bits f) (value (words_from main at 4)) 0 0
  five_in ex =
      let z : at + 0 * (element_bits f / 8) ≡ at = omega arith in
      ex ∙ sym (element_in 0 (few_elements f).some ∙ rw (z, ew))

module _ (f : Format) {width : ℕ} (ew : width ≡ element_bits f) where
  pub part_known : Width width
  part_known = rw ew (width_of f)

  pub part_inside : (at n e : ℕ) → at + vector_bytes f + 4 ≤ n → e < elements f → at + e * (width / 8) + 4 ≤ n
  unfolding vector_bytes vector_bits
  part_inside at n e l h =
      let m = mul-le-mul_right {m = e} {n = elements f} (element_bits f) (omega arith) in
      rw ew (go (width_of f) m l)
    where
      go : {w : ℕ} → Width w → e * w ≤ elements f * w → at + elements f * w / 8 + 4 ≤ n → at + e * (w / 8) + 4 ≤ n
      go eight m l = omega arith
      go sixteen m l = omega arith
      go whole m l = omega arith

-- ---- runs of vectors

module _ (f : Format) (a : ℕ) where
  -- vector j of n lies inside
  pub run_inside : (n j len : ℕ) {at : ℕ} → a + vector_bytes f * n + 4 ≤ len → j < n → at ≡ a + vector_bytes f * j → at + vector_bytes f + 4 ≤ len
  run_inside n j len l h e =
      let m = mul-le-mul_left {m = suc j} (vector_bytes f) h in
      let s = mul-suc (vector_bytes f) j in
      omega arith

  pub run_next : (j : ℕ) {at b : ℕ} → b ≡ vector_bytes f → at ≡ a + vector_bytes f * j → at + b ≡ a + vector_bytes f * (j + 1)
  run_next j e h = let s = mul-add (vector_bytes f) j 1 in let t = mul-one (vector_bytes f) in omega arith

-- the bytes of a vector of one element
pub scalar_bytes : (f : Format) {width : ℕ} → Scalar f → width ≡ element_bits f → width / 8 ≡ vector_bytes f
unfolding vector_bytes vector_bits
scalar_bytes f s e = rw (s.single, e) (ap (λ (x : ℕ). x / 8) (sym (one-mul (element_bits f))))

module _ (f : Format) (usn : Bool) (main : List ℕ) (a : ℕ) where
  pub run_vector : (v i : ℕ) {at : ℕ} → at ≡ a + vector_bytes f * (i - v) → vector_in f usn main at ≡ vector_from f usn main a v i
  unfolding vector_from
  run_vector v i e = rw e

  pub run_first : (i : ℕ) {at : ℕ} → at ≡ a + vector_bytes f * i → vector_in f usn main at ≡ vector_from f usn main a 0 i
  run_first i e = run_vector 0 i (rw (sub-zero i) e)

  -- one run more, up to the wrap at most
  pub runs_more : (size address first to i at run q : ℕ) (mem : List ℕ) {m : List ℕ} → first ≤ i → i + run ≤ to → at ≡ a + vector_bytes f * (i - first)
      → q ≡ (address + i) % size → q + run ≤ size → m ≡ stores_from (λ (j : ℕ). q + j) (vector_from f usn main at 0) run 0 mem
      → stores_from (λ (i : ℕ). (address + i) % size) (vector_from f usn main a first) (to - (i + run)) (i + run) m
      ≡ stores_from (λ (i : ℕ). (address + i) % size) (vector_from f usn main a first) (to - i) i mem
  unfolding vector_from
  runs_more size address first to i at run q mem h few ea eq l em =
      let place : ℕ → ℕ = λ (i : ℕ). (address + i) % size in
      let k : run + (to - (i + run)) ≡ to - i = omega arith in
      rw (em, ← moved_stores place (λ (j : ℕ). q + j) (vector_from f usn main a first) (vector_from f usn main at 0) run i 0 mem (λ j s. places_follow size address i q run eq l j s ∙ omega arith) along)
      (stores_join place (vector_from f usn main a first) run (to - (i + run)) i mem ∙ rw k)
    where
      along : (j : ℕ) → vector_from f usn main a first (i + j) ≡ vector_from f usn main at 0 (0 + j)
      along j =
          let b : i + j - first ≡ i - first + j = omega arith in
          let z : 0 + j - 0 ≡ j = omega arith in
          let g = mul-add (vector_bytes f) (i - first) j in
          rw (b, z, g) (ap (vector_in f usn main) (omega arith))

-- a run's end
pub runs_inside : (f : Format) (a first last i run len : ℕ) {at : ℕ} → a + vector_bytes f * (last - first) + 4 ≤ len → first ≤ i → i + run ≤ last
    → at ≡ a + vector_bytes f * (i - first) → at + vector_bytes f * run + 4 ≤ len
runs_inside f a first last i run len l h few e =
    let m = mul-le-mul_left {m = i - first + run} {n = last - first} (vector_bytes f) (omega arith) in
    let g = mul-add (vector_bytes f) (i - first) run in
    omega arith

pub runs_first : (f : Format) (a first : ℕ) → a ≡ a + vector_bytes f * (first - first)
runs_first f a first =
    let z : first - first ≡ 0 = omega arith in
    rw (z, mul-zero, add-zero)

pub runs_next : (f : Format) (a first i run : ℕ) {at b : ℕ} → b ≡ vector_bytes f → first ≤ i → at ≡ a + vector_bytes f * (i - first)
    → at + b * run ≡ a + vector_bytes f * (i + run - first)
runs_next f a first i run eb h e =
    let g = mul-add (vector_bytes f) (i - first) run in
    let k : i + run - first ≡ i - first + run = omega arith in
    rw (k, eb, e, g) (omega arith)

-- ---- writes of vectors read

-- the fields of a quadword are written side by side
pub side_by_side : (m fields row codes : List ℕ) (q col mode : ℕ) {old new s : List ℕ} → old ≡ quad_of m q → new ≡ fields_after codes mode fields row col old
    → s ≡ store_quadword m q new → s ≡ written_at m q fields row col codes mode
unfolding written_at put_field store_quadword fields_after quad_of
side_by_side m fields row codes q col mode eo en es =
    rw (es, en, eo, get_or-set_other {A = ℕ} _ (4 * q) (4 * q + 1) _ 0 (λ e. omega arith), get_or-set_other {A = ℕ} _ (4 * q + 1) (4 * q + 2) _ 0 (λ e. omega arith), get_or-set_other {A = ℕ} _ (4 * q) (4 * q + 2) _ 0 (λ e. omega arith), get_or-set_other {A = ℕ} _ (4 * q + 2) (4 * q + 3) _ 0 (λ e. omega arith), get_or-set_other {A = ℕ} _ (4 * q + 1) (4 * q + 3) _ 0 (λ e. omega arith), get_or-set_other {A = ℕ} _ (4 * q) (4 * q + 3) _ 0 (λ e. omega arith))

pub new_fields : (codes fields row old : List ℕ) (mode col : ℕ) {a b x y : ℕ}
    → a ≡ field_of (get_or codes 0 0) mode (get_or fields 0 0) (get_or row 0 0) col (get_or old 0 0)
    → b ≡ field_of (get_or codes 1 0) mode (get_or fields 1 0) (get_or row 1 0) col (get_or old 1 0)
    → x ≡ field_of (get_or codes 2 0) mode (get_or fields 2 0) (get_or row 2 0) col (get_or old 2 0)
    → y ≡ field_of (get_or codes 3 0) mode (get_or fields 3 0) (get_or row 3 0) col (get_or old 3 0)
    → a ∷ b ∷ x ∷ y ∷ [] ≡ fields_after codes mode fields row col old
unfolding fields_after
new_fields codes fields row old mode col ea eb ex ey = rw (ea, eb, ex, ey)

-- MODE and the mask's row of a write, by its place in its cycle
pub mode_in : (r : Registers) (i : ℕ) {cycle m : ℕ} → cycle ≡ i % r.wl → m ≡ if (filling r.cl r.wl && leb r.cl cycle) 0 r.mode
    → m ≡ (registers_at r i).mode
unfolding registers_at fills
mode_in r i e h = rw e at h

pub row_in : (wl i : ℕ) {cycle c : ℕ} → cycle ≡ i % wl → c ≡ min cycle 3 → c ≡ row_of_cycle wl i
unfolding row_of_cycle
row_in wl i e h = rw e at h

-- the vector of a write
module _ {size address cl wl first last : ℕ} {mem : List ℕ} (x : WritesFit size address cl wl first last mem) {i : ℕ} (index : ℕ) (l : i < last) (e : index + suc (vectors_before cl wl first) ≡ vectors_before cl wl (suc i)) where
  pub index_few : index ≤ 255
  index_few =
      let v = vectors_few cl wl (suc i) in
      let f = x.few in
      omega arith

  pub index_words : (xs : List ℕ) {words : List ℕ} → words ≡ quad_of xs index → words ≡ vector_of xs cl wl first i
  unfolding vector_of
  index_words xs h = let q : vectors_before cl wl (suc i) - suc (vectors_before cl wl first) ≡ index = omega arith in rw q h

pub index_first : {size address cl wl first last : ℕ} {mem : List ℕ} → WritesFit size address cl wl first last mem
    → 0 + suc (vectors_before cl wl first) ≡ vectors_before cl wl (suc first)
index_first x = let b = x.begins in omega arith

pub index_written : (size a : ℕ) (r : Registers) (xs : List ℕ) (v i index : ℕ) (w : Written) {fields : List ℕ} → fields ≡ quad_of xs index
    → index + suc v ≡ vectors_before r.cl r.wl (suc i)
    → write_vector size a (registers_at r i) i fields w ≡ write_at size a r (λ (k : ℕ). quad_of xs (k - v)) i w
index_written size a r xs v i index w ef e =
    let q : index + v - v ≡ index = omega arith in
    let y : quad_of xs (index + v - v) ≡ quad_of xs index = rw q in
    rw (ef, ← y) (filling_at size a r (λ (k : ℕ). quad_of xs (k - v)) i {j = index + v} (omega arith) w)

pub writes_again : {size address cl wl first last : ℕ} {mem m : List ℕ} → WritesFit size address cl wl first last mem → length m ≡ length mem
    → WritesFit size address cl wl first last m
writes_again x e =
    record {
      cycle = x.cycle;
      memory = record { some = x.memory.some; most = x.memory.most; long = e ∙ x.memory.long };
      inside = x.inside;
      some = x.some;
      small = x.small;
      few = x.few;
      begins = x.begins;
    }

-- The steps of payload words do what the whole payload says, and what writes keep.
use Rattle.std.proofs.Common.{◌≡◌, ℕ, zero, suc, ◌+◌, ◌-◌, ◌*◌, ◌/◌, ◌%◌, ◌^◌, ◌<◌, ◌≤◌, Bool, true, false, ltb, ◌↔◌, List, [], ◌∷◌, ◌++◌, length, get_or, sym, refl, ap, ◌∙◌, add-zero, add_assoc, mul-le-mul_right, mul_assoc, suc-mul, mul-le-mul_left, le-div_iff_mul-le, zero-add, mul-one, mul-suc, mul-add, div-mul-le_self, div-one, arith, length-set, get_or-set_other, pow_pos, pow-add, ne_eqb}
use native.Mathlib.Nat.{sub-zero, add-mul-div_left, div-div-eq-div-mul, mul-div-mul_left, div-eq_of_lt, zero-div, mod-one, min-zero, min-eq_left}
use Rattle.fields.specs.Fields.{if}
use Rattle.fields.proofs.ChoiceLaws.{if_ind}
use Rattle.fields.proofs.FieldLaws.{field_low}
use Rattle.unpack_rules.specs.declared.Format.{Format}
use Rattle.unpack_rules.specs.declared.Format.TheVariants.{V4x32}
use Rattle.unpack_rules.specs.declared.Unpacking.{Unpacking}
use Rattle.unpack_rules.specs.declared.Registers.{Registers}
use Rattle.unpack_rules.specs.Payload.{element_bits, elements, is_five, vector_bits, payload_words, value, whole_vectors}
use Rattle.unpack_rules.specs.Vector.{extended, element, fields_of, five_fields, vector_at}
use Rattle.unpack_rules.specs.Position.{addresses, position_of, filling, vectors_before}
use Rattle.unpack_rules.specs.Mask.{mask_of, code_at, code_row}
use Rattle.unpack_rules.specs.Write.{rows_after, put_field, written_at, Written, written, write_vector, registers_at, last_vector, write_at, writes_from}
use Rattle.unpack_rules.specs.Step.{count_of, unpacking_of, taken_words, holds, acting, held_vector, done_after, word_of, unpack_word, unfed_writes}
use Rattle.unpack_rules.specs.Range.{payload_for}
use Rattle.unpack_rules.specs.Whole.{payload_vector, unpacked_by, take_words, held_after, store_quadword, copy_vectors, four_words}
use Rattle.unpack_rules.specs.Inner.{VectorIn, WriteIn, plain}
use Rattle.unpack_rules.proofs.PayloadLaws.{few_elements, bits_some, starts_inside, vector_fits}
use Rattle.unpack_rules.proofs.WriteLaws.{plain_rows, plain_quadword, plain_place, plain_at}
use Rattle.unpack_rules.proofs.CycleLaws.{plain_vectors, vectors_mono, vectors_none, vectors_zero, vectors_some, done_exactly, done_is, done_mono}
use Rattle.unpack_rules.proofs.StepLaws.{write_in}
use Rattle.unpack_rules.proofs.VectorLaws.{Words, more, digit}

-- ---- a vector is known from its elements

same_fields : (n : ℕ) → 1 ≤ n → {x y z w a b c d : ℕ} → x ≡ a → (1 < n → y ≡ b) → (2 < n → z ≡ c) → (3 < n → w ≡ d)
    → fields_of n x y z w ≡ fields_of n a b c d
unfolding fields_of if
same_fields zero h ex ey ez ew = absurd (omega arith)
same_fields (suc zero) h ex ey ez ew = rw ex
same_fields (suc (suc zero)) h ex ey ez ew = rw (ex, ey (omega arith))
same_fields (suc (suc (suc zero))) h ex ey ez ew = rw (ex, ey (omega arith), ez (omega arith))
same_fields (suc (suc (suc (suc n)))) h ex ey ez ew =
    rw (ne_eqb (suc (suc (suc (suc n)))) 1 (λ e. omega arith), ne_eqb (suc (suc (suc (suc n)))) 2 (λ e. omega arith), ne_eqb (suc (suc (suc (suc n)))) 3 (λ e. omega arith), ex, ey (omega arith), ez (omega arith), ew (omega arith))

-- two places that agree on each element of a format hold the same vector
pub same_vector : (f : Format) (usn : Bool) (p at q on : ℕ)
    → ((e : ℕ) → e < elements f → element (element_bits f) p at e ≡ element (element_bits f) q on e)
    → vector_at f usn p at ≡ vector_at f usn q on
unfolding vector_at
same_vector f usn p at q on h =
    let s = (few_elements f).some in
    let h0 : element (element_bits f) p at 0 ≡ element (element_bits f) q on 0 = h 0 s in
    rw h0
    (ap (if (is_five f) (five_fields (element (element_bits f) q on 0)))
    (same_fields (elements f) s refl (λ l. rw (h 1 l)) (λ l. rw (h 2 l)) (λ l. rw (h 3 l))))

-- ---- the payload from bit 32k on, and the three words before it

-- p moved up by s bits is v moved up by k bits, low bits apart: from the same bit on, p and v hold the same
pub same_place : (s p low v k b c : ℕ) → 2 ^ s * p ≡ low + 2 ^ k * v → low < 2 ^ k → s + b ≡ k + c → p / 2 ^ b ≡ v / 2 ^ c
same_place s p low v k b c e l q =
    sym (mul-div-mul_left p (2 ^ b) (pow_pos s))
    ∙ rw (e, ← pow-add 2 s b, q, pow-add 2 k c, ← div-div-eq-div-mul (low + 2 ^ k * v), add-mul-div_left low v (pow_pos k), div-eq_of_lt l, zero-add)

-- A number p that holds a payload from its word c on, moved up by s bits: its words up to word k, and on top of them the three held and those to come.
record Along (p s c k : ℕ) (u : Unpacking) (ws : List ℕ) : Type 0 where
  from : c ≤ k
  low : ℕ
  below : low < 2 ^ (32 * (k - c))
  split : 2 ^ s * p ≡ low + 2 ^ (32 * (k - c)) * value (u.first ∷ u.second ∷ u.third ∷ ws)
  words : Words (u.first ∷ u.second ∷ u.third ∷ ws)

-- vector i starts at bit `at i` of it
record Lies (f : Format) (s c : ℕ) (at : ℕ → ℕ) : Type 0 where
  place : (k i : ℕ) → c ≤ k → VectorIn f k i → s + at i ≡ 32 * (k - c) + (i * vector_bits f + 96 - 32 * k)

-- the number of words and of more after them
pub value_append : (xs ys : List ℕ) → value (xs ++ ys) ≡ value xs + value ys * 2 ^ (32 * length xs)
value_append [] ys = omega arith
value_append (x ∷ xs) ys =
    let e : 32 * suc (length xs) ≡ 32 * length xs + 32 = omega arith in
    let m : value ys * 2 ^ (32 * suc (length xs)) ≡ value ys * 2 ^ (32 * length xs) * 2 ^ 32 = rw (e, pow-add 2 (32 * length xs) 32, ← mul_assoc) in
    let h = value_append xs ys in
    omega arith

-- the four words of a step are the low 128 bits from there on
window : (a b c d : ℕ) (ws : List ℕ) → value (a ∷ b ∷ c ∷ d ∷ ws) ≡ value (a ∷ b ∷ c ∷ d ∷ []) + value ws * 2 ^ 128
window a b c d ws = value_append (a ∷ b ∷ c ∷ d ∷ []) ws

-- so an element of a vector that word k completes is the same in them and in p
same_element : (f : Format) (p s c k i x : ℕ) (at : ℕ → ℕ) (u : Unpacking) (ws : List ℕ) → Lies f s c at → Along p s c k u (x ∷ ws) → VectorIn f k i
    → (e : ℕ) → e < elements f
    → element (element_bits f) (value (u.first ∷ u.second ∷ u.third ∷ x ∷ [])) (i * vector_bits f + 96 - 32 * k) e
    ≡ element (element_bits f) p (at i) e
unfolding element vector_bits
same_element f p s c k i x at u ws y h v e l =
    let b = (vector_fits f k i v).inside in
    let m = mul-le-mul_right {m = suc e} {n = elements f} (element_bits f) l in
    let t : suc e * element_bits f ≡ e * element_bits f + element_bits f = suc-mul e (element_bits f) in
    let q = y.place k i h.from v in
    let on = i * vector_bits f + 96 - 32 * k in
    sym (rw (same_place s p h.low _ (32 * (k - c)) (at i + e * element_bits f) (on + e * element_bits f) h.split h.below (omega arith), window u.first u.second u.third x ws)
    (field_low 128 _ (value ws) (on + e * element_bits f) (element_bits f) (omega arith)))

held_vector_lem : (f : Format) (p s c k i x : ℕ) (at : ℕ → ℕ) (u : Unpacking) (ws : List ℕ) → Lies f s c at → Along p s c k u (x ∷ ws) → VectorIn f k i
    → held_vector f u x k i ≡ vector_at f u.usn p (at i)
unfolding held_vector
held_vector_lem f p s c k i x at u ws y h v = same_vector f u.usn _ _ _ _ (same_element f p s c k i x at u ws y h v)

-- before the first word: the payload with three words of zeros before it
along_first : (f : Format) (cl wl a num : ℕ) (usn masked i : Bool) (ws : List ℕ) → Words ws
    → Along (value ws) 96 0 0 (unpacking_of f cl wl a num usn masked i) ws
unfolding unpacking_of
along_first f cl wl a num usn masked i ws h =
    record {
      from = omega arith;
      low = 0;
      below = omega arith;
      split = omega arith;
      words = more {w = 0} (omega arith) (more {w = 0} (omega arith) (more {w = 0} (omega arith) h));
    }

lies_first : (f : Format) → Lies f 96 0 (λ i. i * vector_bits f)
lies_first f = record { place = λ k i l v. let s = starts_inside f k i v in omega arith }

-- before any word k: the three words held and those to come
along_here : (k : ℕ) (u : Unpacking) (ws : List ℕ) → Words (u.first ∷ u.second ∷ u.third ∷ ws)
    → Along (value (u.first ∷ u.second ∷ u.third ∷ ws)) 0 k k u ws
along_here k u ws h =
    let z : 32 * (k - k) ≡ 0 = omega arith in
    record { from = omega arith; low = 0; below = rw z (omega arith); split = rw z (omega arith); words = h }

lies_here : (f : Format) (k : ℕ) → Lies f 0 k (λ i. i * vector_bits f + 96 - 32 * k)
lies_here f c = record { place = λ k i l v. let s = starts_inside f k i v in omega arith }

-- a digit more
digit_below : (low n x b : ℕ) → low < n → x < b → low + n * x < n * b
digit_below low n x b h l =
    let m = mul-le-mul_left {m = suc x} n l in
    let e : n * suc x ≡ n * x + n = mul-suc n x in
    omega arith

digit_split : (low n x b v : ℕ) → low + n * (x + b * v) ≡ low + n * x + n * b * v
digit_split low n x b v = rw (mul-add n x, ← mul_assoc n b, ← add_assoc low)

-- one word more
along_next : (p s c k x : ℕ) (u : Unpacking) (ws : List ℕ) → Along p s c k u (x ∷ ws) → Along p s c (k + 1) (holds u x) ws
along_next p s c k x u ws h =
    let b = h.from in
    let e : 32 * (k + 1 - c) ≡ 32 * (k - c) + 32 = omega arith in
    record {
      from = omega arith;
      low = h.low + 2 ^ (32 * (k - c)) * u.first;
      below = rw (e, pow-add 2 (32 * (k - c)) 32) (digit_below h.low (2 ^ (32 * (k - c))) u.first (2 ^ 32) h.below (head h.words));
      split = h.split ∙ rw (e, pow-add 2 (32 * (k - c)) 32) (digit_split h.low (2 ^ (32 * (k - c))) u.first (2 ^ 32) (value (u.second ∷ u.third ∷ x ∷ ws)));
      words = tail h.words;
    }
  where
    head : {y : ℕ} {ys : List ℕ} → Words (y ∷ ys) → y < 2 ^ 32
    head (more l r) = l

    tail : {y : ℕ} {ys : List ℕ} → Words (y ∷ ys) → Words ys
    tail (more l r) = r

-- ---- writes one after another

module _ (size a : ℕ) (r : Registers) where
  -- they depend on no other vectors than theirs
  pub same_writes : (vec on : ℕ → List ℕ) (n i : ℕ) (w : Written)
      → ((j : ℕ) → i ≤ j → j < i + n → last_vector vec (vectors_before r.cl r.wl (suc j)) ≡ last_vector on (vectors_before r.cl r.wl (suc j)))
      → writes_from size a r vec n i w ≡ writes_from size a r on n i w
  unfolding writes_from write_at
  same_writes vec on zero i w h = refl
  same_writes vec on (suc n) i w h =
      rw (h i (omega arith) (omega arith)) (same_writes vec on n (suc i) _ (λ j l m. h j (omega arith) (omega arith)))

  -- the same vectors make the same writes
  pub equal_writes : (vec on : ℕ → List ℕ) (n i : ℕ) (w : Written) → ((j : ℕ) → vec j ≡ on j)
      → writes_from size a r vec n i w ≡ writes_from size a r on n i w
  equal_writes vec on n i w h = same_writes vec on n i w (λ j l m. last (vectors_before r.cl r.wl (suc j)))
    where
      last : (v : ℕ) → last_vector vec v ≡ last_vector on v
      last zero = refl
      last (suc v) = h v

  pub writes_join : (vec : ℕ → List ℕ) (m n i : ℕ) (w : Written)
      → writes_from size a r vec n (i + m) (writes_from size a r vec m i w) ≡ writes_from size a r vec (m + n) i w
  unfolding writes_from
  writes_join vec zero n i w = rw (add-zero, zero-add)
  writes_join vec (suc m) n i w =
      let e : i + suc m ≡ suc i + m = omega arith in
      let q : suc m + n ≡ suc (m + n) = omega arith in
      rw (e, q) (writes_join vec m n (suc i) _)

  -- up to one number, and from it on
  pub writes_to : (vec : ℕ → List ℕ) (from mid to : ℕ) (w : Written) → from ≤ mid → mid ≤ to
      → writes_from size a r vec (to - mid) mid (writes_from size a r vec (mid - from) from w) ≡ writes_from size a r vec (to - from) from w
  writes_to vec from mid to w h l =
      let e : from + (mid - from) ≡ mid = omega arith in
      let q : mid - from + (to - mid) ≡ to - from = omega arith in
      let j = writes_join vec (mid - from) (to - mid) from w in
      rw (e, q) at j

pub whole_mono : (f : Format) (n k l : ℕ) → k ≤ l → whole_vectors f n k ≤ whole_vectors f n l
unfolding whole_vectors
whole_mono f n k l h =
    let m = div-mul-le_self (32 * k) (vector_bits f) in
    let d : 32 * k / vector_bits f ≤ 32 * l / vector_bits f = (le-div_iff_mul-le (bits_some f)).1 (omega arith) in
    omega arith

whole_none : (f : Format) (n : ℕ) → whole_vectors f n 0 ≡ 0
unfolding whole_vectors
whole_none f n = rw zero-div (min-zero n)

-- more words, no fewer writes
done_after_mono : (f : Format) (r : Registers) (u : Unpacking) (k l : ℕ) → 1 ≤ r.wl → k ≤ l → done_after f r u k ≤ done_after f r u l
unfolding done_after
done_after_mono f r u k l c h =
    done_mono r.cl r.wl c _ _ u.count (whole_mono f (vectors_before r.cl r.wl u.count) k l h)

-- before the first word none is done, unless CL is 0, and then all are
pub done_first : (f : Format) (r : Registers) (u : Unpacking) → 1 ≤ r.wl → 1 ≤ r.cl → done_after f r u 0 ≡ 0
unfolding done_after
done_first f r u w c =
    rw (whole_none f (vectors_before r.cl r.wl u.count))
    (done_is r.cl r.wl w 0 u.count 0 (omega arith) (rw (vectors_none r.cl r.wl) (omega arith)) (λ l. vectors_some r.cl r.wl c w 1 (omega arith)))

pub done_unfed : (f : Format) (r : Registers) (u : Unpacking) (k : ℕ) → 1 ≤ r.wl → r.cl ≡ 0 → done_after f r u k ≡ u.count
unfolding done_after
done_unfed f r u k w z =
    done_is r.cl r.wl w _ u.count u.count (omega arith) (rw (vectors_zero r.cl r.wl z w u.count) (omega arith)) (λ l. absurd (omega arith))

-- ---- the steps

-- one step: word k makes the writes that it completes, with the vectors of p
step_writes : (size : ℕ) (f : Format) (p s c k x : ℕ) (at : ℕ → ℕ) (u : Unpacking) (r : Registers) (ws : List ℕ) (w : Written) → 1 ≤ r.wl → Lies f s c at
    → Along p s c k u (x ∷ ws) → taken_words f r u ≡ k
    → unpack_word size f u r x w
    ≡ writes_from size u.address (acting f u r) (λ i. vector_at f u.usn p (at i)) (done_after f r u (k + 1) - done_after f r u k)
    (done_after f r u k)
    w
unfolding unpack_word word_of done_after acting
step_writes size f p s c k x at u r ws w wl y h e =
    rw e
    (same_writes size u.address (acting f u r) (held_vector f u x k) (λ i. vector_at f u.usn p (at i)) _ _ w
    (λ j l m. held (write_in f r.cl r.wl u.count k j wl l (omega arith))))
  where
    held : {j : ℕ} → WriteIn f r.cl r.wl k j
        → last_vector (held_vector f u x k) (vectors_before r.cl r.wl (suc j))
        ≡ last_vector (λ i. vector_at f u.usn p (at i)) (vectors_before r.cl r.wl (suc j))
    held z = rw z.is (held_vector_lem f p s c k z.vector x at u ws y h z.ends)

taken : (f : Format) (r : Registers) (u : Unpacking) (k : ℕ) → k + u.due ≡ payload_for f r.cl r.wl u.count → taken_words f r u ≡ k
unfolding taken_words
taken f r u k q = omega arith

-- the steps from word k on make the writes from there on
steps_write : (size : ℕ) (f : Format) (p s c k : ℕ) (at : ℕ → ℕ) (u : Unpacking) (r : Registers) (ws : List ℕ) (w : Written) → 1 ≤ r.wl → Lies f s c at
    → Along p s c k u ws → k + u.due ≡ payload_for f r.cl r.wl u.count → length ws ≤ u.due
    → take_words size f u r ws w
    ≡ writes_from size u.address (acting f u r) (λ i. vector_at f u.usn p (at i)) (done_after f r u (k + length ws) - done_after f r u k)
    (done_after f r u k)
    w
unfolding take_words writes_from acting done_after
steps_write size f p s c k at u r [] w wl y h q l =
    let e : done_after f r u (k + 0) - done_after f r u k ≡ 0 = rw add-zero (omega arith) in
    rw e
steps_write size f p s c k at u r (x ∷ ws) w wl y h q l =
    let e : taken_words f r u ≡ k = taken f r u k q in
    let n : k + suc (length ws) ≡ k + 1 + length ws = omega arith in
    steps_write size f p s c (k + 1) at (holds u x) r ws (unpack_word size f u r x w) wl y (along_next p s c k x u ws h) (omega arith) (omega arith)
    ∙ rw (n, step_writes size f p s c k x at u r ws w wl y h e)
    (writes_to size u.address (acting f u r) (λ i. vector_at f u.usn p (at i)) _ _ _ w (done_after_mono f r u k (k + 1) wl (omega arith)) (done_after_mono f r u (k + 1) (k + 1 + length ws) wl (omega arith)))

-- so from any waiting UNPACK on, whatever it holds: the words ws make the writes whose vectors end in them, by the bits of the words held and of these
pub words_write : (size : ℕ) (f : Format) (u : Unpacking) (r : Registers) (ws : List ℕ) (w : Written) → 1 ≤ r.wl
    → Words (u.first ∷ u.second ∷ u.third ∷ ws) → u.due ≤ payload_for f r.cl r.wl u.count → length ws ≤ u.due → {k : ℕ} → taken_words f r u ≡ k
    → take_words size f u r ws w
    ≡ writes_from size u.address (acting f u r)
    (λ i. vector_at f u.usn (value (u.first ∷ u.second ∷ u.third ∷ ws)) (i * vector_bits f + 96 - 32 * k))
    (done_after f r u (k + length ws) - done_after f r u k)
    (done_after f r u k)
    w
unfolding taken_words
words_write size f u r ws w wl h m l {k} e =
    steps_write size f _ 0 k k (λ i. i * vector_bits f + 96 - 32 * k) u r ws w wl (lies_here f k) (along_here k u ws h) (omega arith) l

-- ---- the whole payload

-- taking a payload's words one by one, at most all of it, makes exactly the writes whose vectors lie wholly in them, and the fills after these, by the bits of
-- the words as one number
pub payload_theorem : (size : ℕ) (f : Format) (a num : ℕ) (usn masked i : Bool) (r : Registers) (ws : List ℕ) (w : Written) → Words ws
    → 1 ≤ r.cl → 1 ≤ r.wl → length ws ≤ payload_for f r.cl r.wl (count_of num)
    → take_words size f (unpacking_of f r.cl r.wl a num usn masked i) r ws w
    ≡ unpacked_by size f (unpacking_of f r.cl r.wl a num usn masked i) r ws w
unfolding unpacked_by unpacking_of payload_vector
payload_theorem size f a num usn masked i r ws w h c d l =
    let u = unpacking_of f r.cl r.wl a num usn masked i in
    steps_write size f (value ws) 96 0 0 (λ i. i * vector_bits f) u r ws w d (lies_first f) (along_first f r.cl r.wl a num usn masked i ws h) (omega arith) l
    ∙ rw (done_first f r u d c, zero-add, sub-zero)

-- with CL 0 the code's own step has made all writes: none is left to the payload, which has no word
pub unfed_theorem : (size : ℕ) (f : Format) (u : Unpacking) (r : Registers) (w : Written) → r.cl ≡ 0 → 1 ≤ r.wl
    → unfed_writes size f u r w ≡ unpacked_by size f u r [] w
unfolding unfed_writes unpacked_by acting
unfed_theorem size f u r w z d =
    rw (done_unfed f r u 0 d z)
    (same_writes size u.address (acting f u r) (λ j. []) (payload_vector f u.usn []) u.count 0 w
    (λ j l m. rw (vectors_zero r.cl r.wl z d (suc j))))

-- words and then more of them
pub take_join : (size : ℕ) (f : Format) (u : Unpacking) (r : Registers) (ws vs : List ℕ) (w : Written)
    → take_words size f u r (ws ++ vs) w ≡ take_words size f (held_after u ws) r vs (take_words size f u r ws w)
unfolding take_words held_after
take_join size f u r [] vs w = refl
take_join size f u r (x ∷ ws) vs w = take_join size f (holds u x) r ws vs (unpack_word size f u r x w)

-- from a waiting UNPACK on, which has taken the words ws: the words vs after them make the writes of all of them
pub payload_on : (size : ℕ) (f : Format) (a num : ℕ) (usn masked i : Bool) (r : Registers) (ws vs : List ℕ) (w : Written) → Words (ws ++ vs)
    → 1 ≤ r.cl → 1 ≤ r.wl → length (ws ++ vs) ≤ payload_for f r.cl r.wl (count_of num)
    → take_words size f (held_after (unpacking_of f r.cl r.wl a num usn masked i) ws) r vs
    (take_words size f (unpacking_of f r.cl r.wl a num usn masked i) r ws w)
    ≡ unpacked_by size f (unpacking_of f r.cl r.wl a num usn masked i) r (ws ++ vs) w
payload_on size f a num usn masked i r ws vs w h c d l =
    sym (take_join size f (unpacking_of f r.cl r.wl a num usn masked i) r ws vs w) ∙ payload_theorem size f a num usn masked i r (ws ++ vs) w h c d l

-- each word taken makes one less due
due_after : (u : Unpacking) (ws : List ℕ) → (held_after u ws).due ≡ u.due - length ws
unfolding held_after
due_after u [] = omega arith
due_after u (x ∷ ws) = let h = due_after (holds u x) ws in omega arith

pub payload_due : (f : Format) (cl wl a num : ℕ) (usn masked i : Bool) (ws : List ℕ)
    → (held_after (unpacking_of f cl wl a num usn masked i) ws).due ≡ payload_for f cl wl (count_of num) - length ws
unfolding unpacking_of
payload_due f cl wl a num usn masked i ws = due_after (unpacking_of f cl wl a num usn masked i) ws

-- ---- the vectors of the words taken

-- "exactly the vectors lying wholly in them"
pub whole_exactly : (f : Format) (n k i : ℕ) → i < n → (i < whole_vectors f n k) ↔ ((i + 1) * vector_bits f ≤ 32 * k)
unfolding whole_vectors
whole_exactly f n k i h =
    let t = le-div_iff_mul-le {k = vector_bits f} {x = i + 1} {y = 32 * k} (bits_some f) in (
      (λ l. t.0 (omega arith)),
      (λ l. let q = t.1 l in omega arith),
    )

-- the first v vectors lie wholly in the first k words
below_whole : (f : Format) (n k v : ℕ) → v ≤ n → (v ≤ whole_vectors f n k) ↔ (v * vector_bits f ≤ 32 * k)
unfolding whole_vectors
below_whole f n k v h =
    let t = le-div_iff_mul-le {k = vector_bits f} {x = v} {y = 32 * k} (bits_some f) in (
      (λ l. t.0 (omega arith)),
      (λ l. let q = t.1 l in omega arith),
    )

-- exactly the writes whose vectors, and for fills whose vectors before them, lie wholly in the first k words
pub writes_exactly : (f : Format) (r : Registers) (u : Unpacking) (k i : ℕ) → 1 ≤ r.wl → i < u.count
    → (i < done_after f r u k) ↔ (vectors_before r.cl r.wl (suc i) * vector_bits f ≤ 32 * k)
unfolding done_after
writes_exactly f r u k i w h =
    let e = done_exactly r.cl r.wl w (whole_vectors f (vectors_before r.cl r.wl u.count) k) u.count i h in
    let q : suc i + (u.count - suc i) ≡ u.count = omega arith in
    let m = rw q at (vectors_mono r.cl r.wl w (suc i) (u.count - suc i)) in
    let b = below_whole f (vectors_before r.cl r.wl u.count) k (vectors_before r.cl r.wl (suc i)) m in (
      (λ l. b.0 (e.0 l)),
      (λ l. e.1 (b.1 l)),
    )

-- all of them lie in the whole payload
pub whole_all : (f : Format) (n : ℕ) → whole_vectors f n (payload_words f n) ≡ n
unfolding whole_vectors payload_words
whole_all f n =
    let q : n ≤ 32 * ((n * vector_bits f + 31) / 32) / vector_bits f = (le-div_iff_mul-le (bits_some f)).1 (omega arith) in
    min-eq_left q

pub done_all : (f : Format) (r : Registers) (u : Unpacking) → 1 ≤ r.wl → done_after f r u (payload_for f r.cl r.wl u.count) ≡ u.count
unfolding done_after
done_all f r u w =
    rw (whole_all f (vectors_before r.cl r.wl u.count))
    (done_is r.cl r.wl w _ u.count u.count (omega arith) (omega arith) (λ l. absurd (omega arith)))

-- a whole payload makes every write
pub payload_whole : (size : ℕ) (f : Format) (a num : ℕ) (usn masked i : Bool) (r : Registers) (ws : List ℕ) (w : Written) → Words ws
    → 1 ≤ r.cl → 1 ≤ r.wl → length ws ≡ payload_for f r.cl r.wl (count_of num)
    → take_words size f (unpacking_of f r.cl r.wl a num usn masked i) r ws w
    ≡ writes_from size (a % addresses) (acting f (unpacking_of f r.cl r.wl a num usn masked i) r) (payload_vector f usn ws) (count_of num) 0 w
unfolding unpacked_by unpacking_of
payload_whole size f a num usn masked i r ws w h c d l =
    payload_theorem size f a num usn masked i r ws w h c d (omega arith)
    ∙ rw (l, done_all f r (unpacking_of f r.cl r.wl a num usn masked i) d)

-- ---- what writes leave as it was

put_length : (m : List ℕ) (at code mode x row col : ℕ) → length (put_field m at code mode x row col) ≡ length m
unfolding put_field
put_length m at code mode x row col = length-set m at _

put_other : (m : List ℕ) (at code mode x row col k : ℕ) → (k ≡ at → ⊥) → get_or (put_field m at code mode x row col) k 0 ≡ get_or m k 0
unfolding put_field
put_other m at code mode x row col k n = get_or-set_other m at k _ 0 n

-- one write, whatever its fields
module _ (size a : ℕ) (r : Registers) (i : ℕ) (fields : List ℕ) (w : Written) where
  vector_length : length (write_vector size a r i fields w).mem ≡ length w.mem
  unfolding write_vector written_at
  vector_length = simp put_length

  vector_rows : length (write_vector size a r i fields w).row ≡ 4
  unfolding write_vector rows_after
  vector_rows = refl

  vector_outside : (q e : ℕ) → e < 4 → (q ≡ position_of size a r.cl r.wl i → ⊥)
      → get_or (write_vector size a r i fields w).mem (4 * q + e) 0 ≡ get_or w.mem (4 * q + e) 0
  unfolding write_vector written_at
  vector_outside q e h n =
      put_other _ _ _ _ _ _ _ _ (λ z. n (omega arith)) ∙ put_other _ _ _ _ _ _ _ _ (λ z. n (omega arith))
      ∙ put_other _ _ _ _ _ _ _ _ (λ z. n (omega arith))
      ∙ put_other _ _ _ _ _ _ _ _ (λ z. n (omega arith))

module _ (size a : ℕ) (r : Registers) (vec : ℕ → List ℕ) where
  pub writes_length : (n i : ℕ) (w : Written) → length (writes_from size a r vec n i w).mem ≡ length w.mem
  unfolding writes_from write_at
  writes_length zero i w = refl
  writes_length (suc n) i w = writes_length n (suc i) (write_at size a r vec i w) ∙ vector_length size a (registers_at r i) i _ w

  pub writes_rows : (n i : ℕ) (w : Written) → length w.row ≡ 4 → length (writes_from size a r vec n i w).row ≡ 4
  unfolding writes_from write_at
  writes_rows zero i w h = h
  writes_rows (suc n) i w h = writes_rows n (suc i) (write_at size a r vec i w) (vector_rows size a (registers_at r i) i _ w)

  -- a quadword to which none of the writes goes keeps its four words
  pub writes_outside : (n i q e : ℕ) (w : Written) → e < 4 → ((j : ℕ) → i ≤ j → j < i + n → q ≡ position_of size a r.cl r.wl j → ⊥)
      → get_or (writes_from size a r vec n i w).mem (4 * q + e) 0 ≡ get_or w.mem (4 * q + e) 0
  unfolding writes_from write_at registers_at
  writes_outside zero i q e w l h = refl
  writes_outside (suc n) i q e w l h =
      writes_outside n (suc i) q e (write_at size a r vec i w) l (λ j s t. h j (omega arith) (omega arith))
      ∙ vector_outside size a (registers_at r i) i _ w q e l (h i (omega arith) (omega arith))

-- ---- CL = WL = 1, no mask and no mode: quadwords one after another

plain_position : (size a i : ℕ) → position_of size a 1 1 i ≡ (a + i) % size
plain_position size a i = plain_place size a 1 1 i refl ∙ rw (div-one, mod-one, mul-one, add-zero)

plain_code : (r f : ℕ) → code_at 0 r f ≡ 0
unfolding code_at
plain_code r f = rw zero-div

pub plain_codes : (c : ℕ) → plain (code_row 0 c) 0 ≡ true
unfolding plain
plain_codes c = simp plain_code

module _ (size a : ℕ) (r : Registers) (hc : r.cl ≡ 1) (hw : r.wl ≡ 1) (hm : r.mode ≡ 0) (hk : r.mask ≡ 0) where
  plain_vector : (i : ℕ) (fields : List ℕ) (w : Written) → length w.row ≡ 4
      → write_vector size a r i fields w ≡ written w.row (store_quadword w.mem ((a + i) % size) fields)
  unfolding write_vector
  plain_vector i fields w h =
      rw (hc, hw, hm, hk, plain_position size a i, plain_rows (code_row 0 _) fields w.row h, plain_quadword w.mem fields w.row (code_row 0 _) _ _ 0 (plain_codes _))

  unfilled : filling r.cl r.wl ≡ false
  unfilled = rw (hc, hw)

  pub plain_written : (vec : ℕ → List ℕ) (n i : ℕ) (w : Written) → length w.row ≡ 4
      → writes_from size a r vec n i w ≡ written w.row (copy_vectors size a vec n i w.mem)
  unfolding writes_from copy_vectors
  plain_written vec zero i w h = refl
  plain_written vec (suc n) i w h = rw (← plain_at size a r vec i unfilled w, plain_vector i (vec i) w h) (plain_written vec n (suc i) _ h)

  pub v4_written : (vec : ℕ → List ℕ) (n : ℕ) (w : Written) → length w.row ≡ 4
      → writes_from size a r vec n 0 w ≡ written w.row (copy_vectors size a vec n 0 w.mem)
  v4_written vec n w h = plain_written vec n 0 w h

-- a whole word is extended by nothing
extended_word : (usn : Bool) (x : ℕ) → extended 32 usn x ≡ x
unfolding extended if
extended_word true x = refl
extended_word false x = if_ind (λ (y : ℕ). y ≡ x) (ltb x (2 ^ 31)) refl (omega arith)

v4_element : (usn : Bool) {ws : List ℕ} → Words ws → (j e m : ℕ) → 32 * m ≡ j * 128 + e * 32
    → extended 32 usn (element 32 (value ws) (j * 128) e) ≡ get_or ws m 0
unfolding element
v4_element usn {ws} h j e m q = extended_word usn _ ∙ rw (← q) (digit h m)

-- the vectors of a V4-32 payload are its words, four by four
pub v4_vector : (usn : Bool) {ws : List ℕ} → Words ws → (j : ℕ) → payload_vector V4x32 usn ws j ≡ four_words ws j
unfolding payload_vector vector_at vector_bits fields_of four_words if
v4_vector usn h j =
    rw (v4_element usn h j 0 (4 * j) (omega arith), v4_element usn h j 1 (4 * j + 1) (omega arith), v4_element usn h j 2 (4 * j + 2) (omega arith), v4_element usn h j 3 (4 * j + 3) (omega arith))

pub v4_words : (n : ℕ) → payload_words V4x32 n ≡ 4 * n
unfolding payload_words vector_bits
v4_words n = omega arith

-- a whole V4-32 payload, with CL = WL = 1, M clear and MODE 0, is copied: its words 4j to 4j + 3 to quadword (a + j) mod size
pub v4_payload : (size a num : ℕ) (usn i : Bool) (r : Registers) (ws : List ℕ) (w : Written) → Words ws → length ws ≡ 4 * count_of num
    → r.cl ≡ 1 → r.wl ≡ 1 → r.mode ≡ 0 → length w.row ≡ 4
    → take_words size V4x32 (unpacking_of V4x32 r.cl r.wl a num usn false i) r ws w
    ≡ written w.row (copy_vectors size (a % addresses) (four_words ws) (count_of num) 0 w.mem)
unfolding acting unpacking_of mask_of if
v4_payload size a num usn i r ws w h l hc hw hm hr =
    let u = unpacking_of V4x32 r.cl r.wl a num usn false i in
    let f : filling r.cl r.wl ≡ false = rw (hc, hw) in
    let n : payload_for V4x32 r.cl r.wl (count_of num) ≡ 4 * count_of num = rw (plain_vectors r.cl r.wl (count_of num) f) (v4_words (count_of num)) in
    payload_whole size V4x32 a num usn false i r ws w h (omega arith) (omega arith) (l ∙ sym n)
    ∙ equal_writes size (a % addresses) (acting V4x32 u r) (payload_vector V4x32 usn ws) (four_words ws) (count_of num) 0 w (λ j. v4_vector usn h j)
    ∙ v4_written size (a % addresses) (acting V4x32 u r) hc hw hm refl (four_words ws) (count_of num) w hr

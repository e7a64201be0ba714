-- Formats and their payload in numbers.
use Rattle.std.proofs.Common.{◌≡◌, ℕ, ◌+◌, ◌-◌, ◌*◌, ◌/◌, ◌%◌, ◌<◌, ◌≤◌, min, ◌⊎◌, sym, refl, ◌∙◌, inl, inr, ⊎_elim, mul_assoc, div-lt_iff_lt-mul, add-mul, mul-le-mul, mul-pos, one-mul, le-div_iff_mul-le, arith}
use native.Mathlib.Nat.{min-le_left, min-le_right}
use Rattle.unpack_rules.specs.declared.Format.{Format}
use Rattle.unpack_rules.specs.declared.Format.TheVariants.{S32, S16, S8, V2x32, V2x16, V2x8, V3x32, V3x16, V3x8, V4x32, V4x16, V4x8, V4x5}
use Rattle.unpack_rules.specs.Payload.{element_bits, elements, vector_bits, payload_words, whole_vectors}
use Rattle.unpack_rules.specs.Inner.{Width, eight, sixteen, whole, VectorIn, VectorFits}

-- the width and the number of elements of each format
pub width_of : (f : Format) → Width (element_bits f)
width_of S32 = whole
width_of S16 = sixteen
width_of S8 = eight
width_of V2x32 = whole
width_of V2x16 = sixteen
width_of V2x8 = eight
width_of V3x32 = whole
width_of V3x16 = sixteen
width_of V3x8 = eight
width_of V4x32 = whole
width_of V4x16 = sixteen
width_of V4x8 = eight
width_of V4x5 = sixteen

pub record Few (n : ℕ) : Type 0 where
  pub some : 1 ≤ n
  pub most : n ≤ 4

few : (n : ℕ) → 1 ≤ n → n ≤ 4 → Few n
few n p q = record { some = p; most = q }

pub few_elements : (f : Format) → Few (elements f)
few_elements S32 = few 1 (omega arith) (omega arith)
few_elements S16 = few 1 (omega arith) (omega arith)
few_elements S8 = few 1 (omega arith) (omega arith)
few_elements V2x32 = few 2 (omega arith) (omega arith)
few_elements V2x16 = few 2 (omega arith) (omega arith)
few_elements V2x8 = few 2 (omega arith) (omega arith)
few_elements V3x32 = few 3 (omega arith) (omega arith)
few_elements V3x16 = few 3 (omega arith) (omega arith)
few_elements V3x8 = few 3 (omega arith) (omega arith)
few_elements V4x32 = few 4 (omega arith) (omega arith)
few_elements V4x16 = few 4 (omega arith) (omega arith)
few_elements V4x8 = few 4 (omega arith) (omega arith)
few_elements V4x5 = few 1 (omega arith) (omega arith)

pub width_some : {w : ℕ} → Width w → (8 ≤ w) × (w ≤ 32)
width_some eight = (omega arith, omega arith)
width_some sixteen = (omega arith, omega arith)
width_some whole = (omega arith, omega arith)

pub bits_most : (f : Format) → vector_bits f ≤ 128
unfolding vector_bits
bits_most f = mul-le-mul (few_elements f).most (width_some (width_of f)).1

pub bits_some : (f : Format) → 0 < vector_bits f
unfolding vector_bits
bits_some f =
    let w = (width_some (width_of f)).0 in
    let p : 0 < element_bits f = omega arith in
    let n = (few_elements f).some in
    mul-pos n p

pub payload_most : (f : Format) (n : ℕ) → n ≤ 256 → payload_words f n ≤ 1024
unfolding payload_words
payload_most f n h = let m : n * vector_bits f ≤ 32768 = mul-le-mul h (bits_most f) in omega arith

pub payload_fits : (f : Format) (n : ℕ) → n ≤ 256 → n * vector_bits f ≤ 32768
payload_fits f n h = mul-le-mul h (bits_most f)

pub next_mul : (i b : ℕ) → (i + 1) * b ≡ i * b + b
next_mul i b = add-mul i 1 b ∙ rw one-mul

-- ---- the vectors that a word completes

pub whole_most : (f : Format) (n k : ℕ) → whole_vectors f n k ≤ n
unfolding whole_vectors
whole_most f n k = min-le_left n (32 * k / vector_bits f)

pub whole_few : (f : Format) (n k : ℕ) → n ≤ 256 → whole_vectors f n k ≤ 256
whole_few f n k h = let m = whole_most f n k in omega arith

-- a vector from the first one that is not whole on ends after word k - 1
after_word_lem : (f : Format) (n k i : ℕ) → whole_vectors f n k ≤ i → i < n → 32 * k < (i + 1) * vector_bits f
unfolding whole_vectors
after_word_lem f n k i h l = (div-lt_iff_lt-mul (bits_some f)).0 (below (32 * k / vector_bits f) h)
  where
    below : (q : ℕ) → min n q ≤ i → q < i + 1
    below q m = omega arith

-- one below those that are whole with word k lies wholly in the words
pub inside_words : (f : Format) (n k i : ℕ) → i < whole_vectors f n k → (i + 1) * vector_bits f ≤ 32 * k
unfolding whole_vectors
inside_words f n k i h =
    let m = min-le_right n (32 * k / vector_bits f) in
    (le-div_iff_mul-le (bits_some f)).0 (omega arith)

pub vector_in_lem : (f : Format) (n k i : ℕ) → whole_vectors f n k ≤ i → i < whole_vectors f n (k + 1) → VectorIn f k i
vector_in_lem f n k i h l =
    let m = whole_most f n (k + 1) in
    record { ends_after = after_word_lem f n k i h (omega arith); ends_inside = inside_words f n (k + 1) i l }

-- ---- a vector that a word completes lies in the last four words

small_or_whole : (f : Format) → (vector_bits f ≤ 96) ⊎ (vector_bits f ≡ 128)
unfolding vector_bits
small_or_whole S32 = inl (omega arith)
small_or_whole S16 = inl (omega arith)
small_or_whole S8 = inl (omega arith)
small_or_whole V2x32 = inl (omega arith)
small_or_whole V2x16 = inl (omega arith)
small_or_whole V2x8 = inl (omega arith)
small_or_whole V3x32 = inl (omega arith)
small_or_whole V3x16 = inl (omega arith)
small_or_whole V3x8 = inl (omega arith)
small_or_whole V4x32 = inr refl
small_or_whole V4x16 = inl (omega arith)
small_or_whole V4x8 = inl (omega arith)
small_or_whole V4x5 = inl (omega arith)

pub starts_inside : (f : Format) (k i : ℕ) → VectorIn f k i → 32 * k ≤ i * vector_bits f + 96
starts_inside f k i v =
    let e = next_mul i (vector_bits f) in
    let a = v.ends_after in
    ⊎_elim (λ s. omega arith) (λ s. by_whole (vector_bits f) s a) (small_or_whole f)
  where
    by_whole : (b : ℕ) → b ≡ 128 → 32 * k < (i + 1) * b → 32 * k ≤ i * b + 96
    by_whole b s a = let a' : 32 * k < (i + 1) * 128 = rw s at a in rw s (omega arith)

-- multiples of a width
lane_multiple : {w : ℕ} → Width w → (m k : ℕ) → 32 * k ≤ m * w + 96 → (m * w + 96 - 32 * k) % w ≡ 0
lane_multiple eight m k h = omega arith
lane_multiple sixteen m k h = omega arith
lane_multiple whole m k h = omega arith

pub vector_fits : (f : Format) (k i : ℕ) → VectorIn f k i → VectorFits f (i * vector_bits f + 96 - 32 * k)
unfolding vector_bits
vector_fits f k i v =
    let s = starts_inside f k i v in
    let e = next_mul i (vector_bits f) in
    let b = v.ends_inside in
    let q : i * (elements f * element_bits f) ≡ i * elements f * element_bits f = sym (mul_assoc i (elements f) (element_bits f)) in
    record {
      multiple = rw q (lane_multiple (width_of f) (i * elements f) k (rw q at s));
      inside = omega arith;
    }

pub payload_some : (f : Format) (n : ℕ) → 1 ≤ n → 1 ≤ payload_words f n
unfolding payload_words
payload_some f n h =
    let b = bits_some f in
    let m : 0 < n * vector_bits f = mul-pos h b in
    omega arith

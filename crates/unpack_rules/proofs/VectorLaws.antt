-- Elements and vectors of four words.
use Rattle.std.proofs.Common.{◌≡◌, ℕ, zero, suc, ◌+◌, ◌-◌, ◌*◌, ◌/◌, ◌%◌, ◌^◌, ◌<◌, ◌≤◌, Bool, true, false, List, [], ◌∷◌, get_or, refl, ap, ◌∙◌, add-zero, mul-le-mul_right, mod-lt, mod-eq_of_lt, suc-mul, mul-le-mul, zero-add, zero-mul, div-one, arith, pow_pos, pow_mono, pow-add, eq-eqb, ne_eqb}
use native.Mathlib.Nat.{add-mul-mod_self_right, add-mul-div_left, add-mul-mod_self_left, div-div-eq-div-mul, div-eq_of_lt, zero-div}
use Rattle.fields.specs.Fields.{if}
use Rattle.fields.proofs.FieldLaws.{field_mod, field_up}
use Rattle.unpack_rules.specs.declared.Format.{Format}
use Rattle.unpack_rules.specs.Payload.{element_bits, elements, is_five, vector_bits, value}
use Rattle.unpack_rules.specs.Vector.{extended, element, fields_of, five_fields, extended_at, vector_at}
use Rattle.unpack_rules.specs.Inner.{Width, eight, sixteen, whole, ElementFits, VectorFits}
use Rattle.unpack_rules.proofs.PayloadLaws.{width_of, width_some}

-- half the range of a width, once for every width
pub halves : (w : ℕ) → 1 ≤ w → w ≤ 32 → (0 < 2 ^ (w - 1)) × (2 ^ (w - 1) ≤ 2147483648) × (2 ^ w ≡ 2 * 2 ^ (w - 1)) × (1 * 2 ^ (w - 1) % 4294967296 ≡ 2 ^ (w - 1))
halves w lo hi = (pow_pos (w - 1), top, twice, omega (arith, top))
  where
    top : 2 ^ (w - 1) ≤ 2147483648
    top = pow_mono {i = w - 1} {j = 31} (omega arith)

    twice : 2 ^ w ≡ 2 * 2 ^ (w - 1)
    twice = let e : w ≡ 1 + (w - 1) = omega arith in ap (λ (n : ℕ). 2 ^ n) e ∙ pow-add 2 1 (w - 1)

-- a word of a list, as a digit of its value
pub data Words : List ℕ → Type 0 where
  none : Words []
  more : {w : ℕ} {ws : List ℕ} → w < 2 ^ 32 → Words ws → Words (w ∷ ws)

pub digit : {ws : List ℕ} → Words ws → (j : ℕ) → value ws / 2 ^ (32 * j) % 2 ^ 32 ≡ get_or ws j 0
digit none j = rw (zero-div (2 ^ (32 * j)))
digit (more {w} {ws} h r) zero = rw (div-one (w + 2 ^ 32 * value ws), add-mul-mod_self_left w (2 ^ 32) (value ws)) (mod-eq_of_lt h)
digit (more {w} {ws} h r) (suc j) =
    let e : 32 * suc j ≡ 32 + 32 * j = omega arith in
    rw (e, pow-add 2 32 (32 * j), ← div-div-eq-div-mul (w + 2 ^ 32 * value ws), add-mul-div_left w (value ws) (pow_pos 32), div-eq_of_lt h, zero-add)
    (digit r j)

-- an element that lies in one word is a field of it
pub element_word : {ws : List ℕ} → Words ws → (w at : ℕ) → at % 32 + w ≤ 32
    → get_or ws (at / 32) 0 / 2 ^ (at % 32) % 2 ^ w ≡ element w (value ws) at 0
unfolding element
element_word {ws} r w at h =
    let e : at + 0 * w ≡ 32 * (at / 32) + at % 32 = rw (zero-mul, add-zero) (omega arith) in
    rw (e, field_up (value ws) (32 * (at / 32)) (at % 32) w, ← digit r (at / 32))
    (field_mod 32 (value ws / 2 ^ (32 * (at / 32))) (at % 32) w h)

-- an element further on
pub element_on : (w p at e a : ℕ) → a ≡ at + e * w → element w p a 0 ≡ element w p at e
unfolding element
element_on w p at e a q = rw (q, zero-mul, add-zero)

-- the elements of a vector that fits lie each in one word
lane : {w : ℕ} → Width w → (a : ℕ) → a % w ≡ 0 → a % 32 + w ≤ 32
lane eight a h = omega arith
lane sixteen a h = omega arith
lane whole a h = omega arith

pub element_fits : (f : Format) (at e a : ℕ) → VectorFits f at → e < elements f → a ≡ at + e * element_bits f → ElementFits (element_bits f) a
unfolding vector_bits
element_fits f at e a v h q =
    let m = mul-le-mul_right {m = suc e} {n = elements f} (element_bits f) h in
    let s : suc e * element_bits f ≡ e * element_bits f + element_bits f = suc-mul e (element_bits f) in
    let i = v.inside in
    let r : a % element_bits f ≡ 0 = rw q (add-mul-mod_self_right at e (element_bits f) ∙ v.multiple) in
    record { width_known = width_of f; lane = lane (width_of f) a r; inside = omega arith }

-- ---- a vector from its elements

module _ (f : Format) (usn : Bool) (p at : ℕ) where
  pub vector_five : is_five f ≡ true → {h : ℕ} {r : List ℕ} → h ≡ element (element_bits f) p at 0 → r ≡ five_fields h → r ≡ vector_at f usn p at
  unfolding vector_at if
  vector_five b eh er = rw b (er ∙ ap five_fields eh)

  module _ (b : is_five f ≡ false) {n x : ℕ} (en : n ≡ elements f) (ex : x ≡ extended_at f usn p at 0) where
    pub vector_one : n ≡ 1 → x ∷ x ∷ x ∷ x ∷ [] ≡ vector_at f usn p at
    unfolding vector_at fields_of if
    vector_one h = rw (b, ← en, eq-eqb _ _ h, ← ex)

    module _ (n1 : n ≡ 1 → ⊥) {y : ℕ} (ey : y ≡ extended_at f usn p at 1) where
      pub vector_two : n ≡ 2 → x ∷ y ∷ x ∷ y ∷ [] ≡ vector_at f usn p at
      unfolding vector_at fields_of if
      vector_two h = rw (b, ← en, ne_eqb _ _ n1, eq-eqb _ _ h, ← ex, ← ey)

      module _ (n2 : n ≡ 2 → ⊥) {z : ℕ} (ez : z ≡ extended_at f usn p at 2) where
        pub vector_three : n ≡ 3 → x ∷ y ∷ z ∷ 0 ∷ [] ≡ vector_at f usn p at
        unfolding vector_at fields_of if
        vector_three h = rw (b, ← en, ne_eqb _ _ n1, ne_eqb _ _ n2, eq-eqb _ _ h, ← ex, ← ey, ← ez)

        pub vector_four : (n ≡ 3 → ⊥) → {w : ℕ} → w ≡ extended_at f usn p at 3 → x ∷ y ∷ z ∷ w ∷ [] ≡ vector_at f usn p at
        unfolding vector_at fields_of if
        vector_four n3 ew = rw (b, ← en, ne_eqb _ _ n1, ne_eqb _ _ n2, ne_eqb _ _ n3, ← ex, ← ey, ← ez, ← ew)

-- ---- what the code computes

-- a power of two that 64 bits hold
pub shifted : {w : ℕ} → Width w → 1 * 2 ^ w % 2 ^ 64 ≡ 2 ^ w
shifted eight = refl
shifted sixteen = refl
shifted whole = refl

pub width_power : {w : ℕ} → Width w → (0 < 2 ^ w) × (2 ^ w ≤ 2 ^ 32)
width_power eight = (omega arith, omega arith)
width_power sixteen = (omega arith, omega arith)
width_power whole = (omega arith, omega arith)

pub four_words_lem : {a b c d : ℕ} → a < 2 ^ 32 → b < 2 ^ 32 → c < 2 ^ 32 → d < 2 ^ 32 → Words (a ∷ b ∷ c ∷ d ∷ [])
four_words_lem ha hb hc hd = more ha (more hb (more hc (more hd none)))

pub words_lem : (ws : List ℕ) → ((j : ℕ) → get_or ws j 0 < 2 ^ 32) → Words ws
words_lem [] h = none
words_lem (w ∷ ws) h = more (h 0) (words_lem ws (λ j. h (suc j)))

module _ {ws : List ℕ} (r : Words ws) (w at : ℕ) (e : ElementFits w at) {word : ℕ} (q : word ≡ get_or ws (at / 32) 0) where
  pub element_code : (word / 2 ^ (at % 32) % (1 * 2 ^ w % 2 ^ 64) ≡ element w (value ws) at 0) × (word / 2 ^ (at % 32) % (1 * 2 ^ w % 2 ^ 64) < 2 ^ w)
  element_code =
      rw (shifted e.width_known, q) (element_word r w at e.lane, mod-lt (get_or ws (at / 32) 0 / 2 ^ (at % 32)) (width_power e.width_known).0)

-- the parts of a vector, by the width that the code holds
module _ (f : Format) (at : ℕ) (v : VectorFits f at) {w : ℕ} (ew : w ≡ element_bits f) where
  pub part_fits : (e a : ℕ) → e < elements f → a ≡ at + e * w → ElementFits w a
  part_fits e a h q = rw ew (element_fits f at e a v h (rw ew at q))

  pub part_as : (usn : Bool) (p e a : ℕ) {x : ℕ} → a ≡ at + e * w → x ≡ extended w usn (element w p a 0) → x ≡ extended_at f usn p at e
  part_as usn p e a q h = h ∙ rw (element_on w p at e a q, ew)

  -- an element's end is near
  pub part_near : (e : ℕ) → e ≤ 4 → at + e * w ≤ 256
  part_near e h =
      let i = v.inside in
      let b = width_some (width_of f) in
      let l : w ≤ 32 = rw ew b.1 in
      let m : e * w ≤ 4 * 32 = mul-le-mul h l in
      omega arith

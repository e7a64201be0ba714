-- Fields of a quadword, read from its two halves.
use Rattle.std.proofs.Common.{◌≡◌, ℕ, ◌+◌, ◌-◌, ◌*◌, ◌/◌, ◌%◌, ◌^◌, ◌<◌, ◌≤◌, sym, ap, ◌∙◌, mod-lt, mod-eq_of_lt, mul_assoc, zero-add, div-one, arith, pow_pos, pow-add}
use native.Mathlib.Nat.{add-mul-div_right, add-mul-mod_self_right, div-div-eq-div-mul, div-eq_of_lt, mod-add-div'}
use Rattle.fields.specs.Fields.{bits, quadword}

-- a power of two split at a smaller one
pub pow_split : (a b : ℕ) → a ≤ b → 2 ^ b ≡ 2 ^ (b - a) * 2 ^ a
pow_split a b h = let e : b ≡ b - a + a = omega arith in ap (λ (n : ℕ). 2 ^ n) e ∙ pow-add 2 (b - a) a

pub bits_below : (x from to : ℕ) → bits x from to < 2 ^ (to + 1 - from)
unfolding bits
bits_below x from to = mod-lt (x / 2 ^ from) (pow_pos (to + 1 - from))

-- a field that lies below bit n, whatever stands from bit n on
pub field_low : (n low high from w : ℕ) → from + w ≤ n → (low + high * 2 ^ n) / 2 ^ from % 2 ^ w ≡ low / 2 ^ from % 2 ^ w
field_low n low high from w h =
    rw (pow_split from n (omega arith), ← mul_assoc high, add-mul-div_right low (high * 2 ^ (n - from)) (pow_pos from))
    (rw (pow_split w (n - from) (omega arith), ← mul_assoc high) (add-mul-mod_self_right (low / 2 ^ from) _ (2 ^ w)))

-- so a field of the low n bits is that field of the number
pub field_mod : (n x from w : ℕ) → from + w ≤ n → x % 2 ^ n / 2 ^ from % 2 ^ w ≡ x / 2 ^ from % 2 ^ w
field_mod n x from w h =
    sym (field_low n (x % 2 ^ n) (x / 2 ^ n) from w h) ∙ rw (mod-add-div' x (2 ^ n))

-- a field further up
pub field_up : (x k from w : ℕ) → x / 2 ^ (k + from) % 2 ^ w ≡ x / 2 ^ k / 2 ^ from % 2 ^ w
field_up x k from w = rw (pow-add 2 k from, ← div-div-eq-div-mul x)

module _ (low high : ℕ) where
  -- a field that lies in the low half
  pub bits_low : (from to : ℕ) → from ≤ to → to < 64 → bits (quadword low high) from to ≡ low / 2 ^ from % 2 ^ (to + 1 - from)
  unfolding bits quadword
  bits_low from to h t = field_low 64 low high from (to + 1 - from) (omega arith)

  -- a field that lies in the high half
  pub bits_high : low < 2 ^ 64 → (from to : ℕ) → 64 ≤ from → bits (quadword low high) from to ≡ high / 2 ^ (from - 64) % 2 ^ (to + 1 - from)
  unfolding bits quadword
  bits_high l from to h =
      let e : from ≡ 64 + (from - 64) = omega arith in
      let p : 2 ^ from ≡ 2 ^ 64 * 2 ^ (from - 64) = ap (λ (n : ℕ). 2 ^ n) e ∙ pow-add 2 64 (from - 64) in
      rw (p, ← div-div-eq-div-mul (low + high * 2 ^ 64), add-mul-div_right low high (pow_pos 64), div-eq_of_lt l, zero-add)

  -- a field at the start of the low half, and the whole of it
  pub bits_first : (to : ℕ) → to < 64 → bits (quadword low high) 0 to ≡ low % 2 ^ (to + 1)
  bits_first to t =
      let e : to + 1 - 0 ≡ to + 1 = omega arith in
      bits_low 0 to (omega arith) t ∙ rw (e, div-one)

  pub whole_low : low < 2 ^ 64 → bits (quadword low high) 0 63 ≡ low
  whole_low l = bits_first 63 (omega arith) ∙ mod-eq_of_lt l

  -- a field at the start of the high half, and the whole of it
  pub bits_middle : low < 2 ^ 64 → (to : ℕ) → bits (quadword low high) 64 to ≡ high % 2 ^ (to + 1 - 64)
  bits_middle l to = bits_high l 64 to (omega arith) ∙ rw div-one

  pub whole_high : low < 2 ^ 64 → high < 2 ^ 64 → bits (quadword low high) 64 127 ≡ high
  whole_high l h = bits_middle l 127 ∙ mod-eq_of_lt h

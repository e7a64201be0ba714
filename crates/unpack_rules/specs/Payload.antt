-- Formats and their payload: document 01's "vn 0 to 3 is one to four elements of 32, 16 or 8 bits (vl 0, 1, 2). vl 3 exists only with vn 3: one halfword".
use Rattle.std.specs.Prelude.{ℕ, ◌+◌, ◌*◌, ◌/◌, ◌^◌, min, Bool, true, false, List, [], ◌∷◌}
use Rattle.unpack_rules.specs.declared.Format.{Format}
use Rattle.unpack_rules.specs.declared.Format.TheVariants.{S32, S16, S8, V2x32, V2x16, V2x8, V3x32, V3x16, V3x8, V4x32, V4x16, V4x8, V4x5}

-- the bits of an element; vl 3 is "one halfword"
abbrev pub element_bits : Format → ℕ
element_bits S32 = 32
element_bits S16 = 16
element_bits S8 = 8
element_bits V2x32 = 32
element_bits V2x16 = 16
element_bits V2x8 = 8
element_bits V3x32 = 32
element_bits V3x16 = 16
element_bits V3x8 = 8
element_bits V4x32 = 32
element_bits V4x16 = 16
element_bits V4x8 = 8
element_bits V4x5 = 16

-- the elements of a vector
abbrev pub elements : Format → ℕ
elements S32 = 1
elements S16 = 1
elements S8 = 1
elements V2x32 = 2
elements V2x16 = 2
elements V2x8 = 2
elements V3x32 = 3
elements V3x16 = 3
elements V3x8 = 3
elements V4x32 = 4
elements V4x16 = 4
elements V4x8 = 4
elements V4x5 = 1

-- vl 3
abbrev pub is_five : Format → Bool
is_five S32 = false
is_five S16 = false
is_five S8 = false
is_five V2x32 = false
is_five V2x16 = false
is_five V2x8 = false
is_five V3x32 = false
is_five V3x16 = false
is_five V3x8 = false
is_five V4x32 = false
is_five V4x16 = false
is_five V4x8 = false
is_five V4x5 = true

unfoldable pub vector_bits : Format → ℕ
vector_bits f = elements f * element_bits f

-- "payload is their bits rounded up to whole words"
unfoldable pub payload_words : Format → ℕ → ℕ
payload_words f n = (n * vector_bits f + 31) / 32

-- words as one number, the first lowest
abbrev pub value : List ℕ → ℕ
value [] = 0
value (w ∷ ws) = w + 2 ^ 32 * value ws

-- how many vectors lie wholly in the first k words, at most n
unfoldable pub whole_vectors : Format → ℕ → ℕ → ℕ
whole_vectors f n k = min n (32 * k / vector_bits f)

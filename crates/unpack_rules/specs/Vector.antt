-- A vector's four fields from its bits.
use Rattle.std.specs.Prelude.{ℕ, ◌+◌, ◌-◌, ◌*◌, ◌/◌, ◌%◌, ◌^◌, Bool, List, [], ◌∷◌, ◌==◌, nat_lt}
use Rattle.fields.specs.Fields.{if, bits}
use Rattle.unpack_rules.specs.declared.Format.{Format}
use Rattle.unpack_rules.specs.Payload.{element_bits, elements, is_five}

-- "Narrow elements are sign-extended, or zero-extended if USN is 1": an element of a width as 32 bits
unfoldable pub extended : ℕ → Bool → ℕ → ℕ
extended width usn x = if usn x (if (nat_lt x (2 ^ (width - 1))) x (x + 2 ^ 32 - 2 ^ width))

-- element e of the vector whose bits start at bit `at` of a number, the first element lowest
unfoldable pub element : ℕ → ℕ → ℕ → ℕ → ℕ
element width p at e = p / 2 ^ (at + e * width) % 2 ^ width

-- "S fills all four fields. V2: Z takes X, W takes Y. V3: W is 0."
unfoldable pub fields_of : ℕ → ℕ → ℕ → ℕ → ℕ → List ℕ
fields_of n x y z w =
    if (n == 1) (x ∷ x ∷ x ∷ x ∷ [])
    (if (n == 2) (x ∷ y ∷ x ∷ y ∷ [])
    (if (n == 3) (x ∷ y ∷ z ∷ 0 ∷ [])
    (x ∷ y ∷ z ∷ w ∷ [])))

-- "one halfword, fields (bits 0-4)x8, (5-9)x8, (10-14)x8, (bit 15)x128"
unfoldable pub five_fields : ℕ → List ℕ
five_fields h = bits h 0 4 * 8 ∷ bits h 5 9 * 8 ∷ bits h 10 14 * 8 ∷ bits h 15 15 * 128 ∷ []

-- element e of a vector, extended
abbrev pub extended_at : Format → Bool → ℕ → ℕ → ℕ → ℕ
extended_at f usn p at e = extended (element_bits f) usn (element (element_bits f) p at e)

-- the four data fields of the vector whose bits start at bit `at` of a number
unfoldable pub vector_at : Format → Bool → ℕ → ℕ → List ℕ
vector_at f usn p at =
    if (is_five f) (five_fields (element (element_bits f) p at 0))
    (fields_of (elements f) (extended_at f usn p at 0) (extended_at f usn p at 1) (extended_at f usn p at 2) (extended_at f usn p at 3))

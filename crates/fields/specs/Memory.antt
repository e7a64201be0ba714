-- Main memory: "All numbers are little-endian; a quadword is 16 bytes, four 32-bit words numbered 0 to 3."
use Rattle.std.specs.Prelude.{ℕ, ◌+◌, ◌*◌, ◌^◌, Bool, ◌&&◌, List, length, nat_le, slice_index}
use Rattle.fields.specs.Fields.{quadword}

-- the word at an address; bytes past the end count as 0
unfoldable pub word_at : List ℕ → ℕ → ℕ
word_at main a =
    slice_index main a + slice_index main (a + 1) * 256 + slice_index main (a + 2) * 65536 + slice_index main (a + 3) * 16777216

-- the 64 bits at an address
unfoldable pub long_at : List ℕ → ℕ → ℕ
long_at main a = word_at main a + word_at main (a + 4) * 2 ^ 32

-- the quadword at an address
abbrev pub quadword_at : List ℕ → ℕ → ℕ
quadword_at main a = quadword (long_at main a) (long_at main (a + 8))

-- so many bytes from an address on lie inside a main memory, which has at most 1,048,576
unfoldable pub inside : List ℕ → ℕ → ℕ → Bool
inside main a n = nat_le (length main) 1048576 && nat_le (a + n) (length main)

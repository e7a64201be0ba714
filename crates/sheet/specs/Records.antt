-- Records: document 01's "A sheet is records to its end, at most 131,072 bytes. Each: mark 9Eh 51h, kind, count n, address (16 bits), body." and its table.
use Rattle.std.specs.Prelude.{ℕ, zero, suc, ◌+◌, ◌*◌, Bool, true, ◌&&◌, List, [], ◌∷◌, get_or, take, drop, eqb, leb, ltb}
use Rattle.memories.specs.declared.VifUnit.TheVariants.{Vif1}
use Rattle.memories.specs.Units.{quadwords, instructions}
use Rattle.sheet.specs.declared.Kind.{Kind}
use Rattle.sheet.specs.declared.Kind.TheVariants.{Data, Code, Gs, Start}

-- a record: its kind, count n, address, and the bytes of its body
pub record Record : Type 0 where
  pub kind : Kind
  pub count : ℕ
  pub address : ℕ
  pub body : List ℕ

abbrev pub record_of : Kind → ℕ → ℕ → List ℕ → Record
record_of k n a body = record { kind = k; count = n; address = a; body = body }

-- "at most 131,072 bytes"
abbrev pub longest : ℕ
longest = 131072

-- the bytes before the body: two of the mark, kind, count, two of the address
abbrev pub header_length : ℕ
header_length = 6

-- "kind": 1 data, 2 code, 3 GS, 4 start
abbrev pub kind_number : Kind → ℕ
kind_number Data = 1
kind_number Code = 2
kind_number Gs = 3
kind_number Start = 4

-- "n": 1-255, and 0 for a start; a count is one byte
abbrev pub count_fits : Kind → ℕ → Bool
count_fits Data n = leb 1 n && leb n 255
count_fits Code n = leb 1 n && leb n 255
count_fits Gs n = leb 1 n && leb n 255
count_fits Start n = eqb n 0

-- "address": <1,024, <2,048, 0, <2,048
abbrev pub address_fits : Kind → ℕ → Bool
address_fits Data a = ltb a (quadwords Vif1)
address_fits Code a = ltb a (instructions Vif1)
address_fits Gs a = eqb a 0
address_fits Start a = ltb a (instructions Vif1)

-- "body": 16n, 8n, 16n, none
abbrev pub body_length : Kind → ℕ → ℕ
body_length Data n = 16 * n
body_length Code n = 8 * n
body_length Gs n = 16 * n
body_length Start n = 0

-- n bytes from a place on
abbrev pub bytes_at : List ℕ → ℕ → ℕ → List ℕ
bytes_at xs at n = take n (drop at xs)

-- "All numbers are little-endian": the number of some bytes
abbrev pub number : List ℕ → ℕ
number [] = 0
number (b ∷ bs) = b + 256 * number bs

-- n bytes from a place on are zero
unfoldable pub zeros_at : List ℕ → ℕ → ℕ → Bool
zeros_at xs at zero = true
zeros_at xs at (suc n) = eqb (get_or xs at 0) 0 && zeros_at xs (at + 1) n

-- "16n: value 8, register 1, zero 7": the zeros of n entries from a place on
unfoldable pub pads_zero : List ℕ → ℕ → ℕ → Bool
pads_zero xs at zero = true
pads_zero xs at (suc n) = zeros_at xs (at + 9) 7 && pads_zero xs (at + 16) n

-- only GS bodies have such zeros
abbrev pub pads_fit : Kind → List ℕ → ℕ → ℕ → Bool
pads_fit Data xs at n = true
pads_fit Code xs at n = true
pads_fit Gs xs at n = pads_zero xs at n
pads_fit Start xs at n = true

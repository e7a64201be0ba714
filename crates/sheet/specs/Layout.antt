-- The chain built: document 01's "Per record one cnt tag, then: kind 1: NOP, 01000101h, 05000000h, UNPACK V4-32 (CMD 6C), vectors. Kind 2: three NOPs, MPG,
-- body, NOPs to a whole quadword. Kind 3: three NOPs, DIRECT n+1, a GIF tag (NLOOP n, EOP 1, NREG 1, descriptor E, rest 0), body. Kind 4: three NOPs, MSCAL.
-- Last an end tag, QWC 0. UNPACK and MPG carry NUM n and IMM the address, DIRECT IMM n+1, MSCAL IMM the address. Unused tag bits are zero, and so are all bits
-- of codes not given here, bit 31 of each too."
use Rattle.std.specs.Prelude.{ℕ, zero, suc, ◌+◌, ◌*◌, ◌-◌, ◌/◌, ◌%◌, ◌^◌, List, [], ◌∷◌, ◌++◌}
use Rattle.sheet.specs.declared.Kind.{Kind}
use Rattle.sheet.specs.declared.Kind.TheVariants.{Data, Code, Gs, Start}
use Rattle.sheet.specs.Records.{Record}
use Rattle.sheet.specs.Sizes.{record_quadwords}

-- the four bytes of a word, lowest first
abbrev pub word_bytes : ℕ → List ℕ
word_bytes w = w % 256 ∷ w / 256 % 256 ∷ w / 65536 % 256 ∷ w / 16777216 ∷ []

-- words as bytes
abbrev pub words_bytes : List ℕ → List ℕ
words_bytes [] = []
words_bytes (w ∷ ws) = word_bytes w ++ words_bytes ws

-- a DMA tag: "Bits 0-15 QWC, 28-30 ID"; 1 is cnt, 7 is end
abbrev pub tag_words : ℕ → ℕ → List ℕ
tag_words id qwc = (id * 2 ^ 28 + qwc) ∷ 0 ∷ 0 ∷ 0 ∷ []

-- a VIF code: "Bits 0-15 IMM, 16-23 NUM, 24-30 CMD"
abbrev pub vif_code : ℕ → ℕ → ℕ → ℕ
vif_code cmd num imm = cmd * 2 ^ 24 + num * 2 ^ 16 + imm

-- NOP 00, STCYCL 01 with CL = WL = 1 (0101h is 257), STMOD 05 with 0, UNPACK V4-32 6C (108), MPG 4A (74), DIRECT 50 (80), MSCAL 14 (20)
abbrev pub code_words : Kind → ℕ → ℕ → List ℕ
code_words Data n a = 0 ∷ vif_code 1 0 257 ∷ vif_code 5 0 0 ∷ vif_code 108 n a ∷ []
code_words Code n a = 0 ∷ 0 ∷ 0 ∷ vif_code 74 n a ∷ []
code_words Gs n a = 0 ∷ 0 ∷ 0 ∷ vif_code 80 0 (n + 1) ∷ []
code_words Start n a = 0 ∷ 0 ∷ 0 ∷ vif_code 20 0 a ∷ []

-- "a GIF tag (NLOOP n, EOP 1, NREG 1, descriptor E, rest 0)": bits 0-14, 15, 60-63 and from 64 on
abbrev pub gif_tag_words : Kind → ℕ → List ℕ
gif_tag_words Data n = []
gif_tag_words Code n = []
gif_tag_words Gs n = (n + 2 ^ 15) ∷ 2 ^ 28 ∷ 14 ∷ 0 ∷ []
gif_tag_words Start n = []

-- "NOPs to a whole quadword": two words where the number of instructions is odd
abbrev pub odd_padding : ℕ → List ℕ
odd_padding zero = []
odd_padding (suc k) = 0 ∷ 0 ∷ []

abbrev pub padding_words : Kind → ℕ → List ℕ
padding_words Data n = []
padding_words Code n = odd_padding (n % 2)
padding_words Gs n = []
padding_words Start n = []

-- the words before the body; QWC counts the quadwords after the tag
abbrev pub lead_words : Kind → ℕ → ℕ → List ℕ
lead_words k n a = tag_words 1 (record_quadwords k n - 1) ++ code_words k n a ++ gif_tag_words k n

-- a record's part of the chain
unfoldable pub laid_out : Record → List ℕ
laid_out r =
    words_bytes (lead_words r.kind r.count r.address) ++ r.body ++ words_bytes (padding_words r.kind r.count)

-- "Last an end tag, QWC 0."
abbrev pub end_tag : List ℕ
end_tag = words_bytes (tag_words 7 0)

-- the chain of a sheet's records
unfoldable pub chain_of : List Record → List ℕ
chain_of [] = end_tag
chain_of (r ∷ rs) = laid_out r ++ chain_of rs

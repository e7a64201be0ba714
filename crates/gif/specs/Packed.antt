-- PACKED data: document 01's "PACKED (0), one quadword per descriptor".
use Rattle.std.specs.Prelude.{ℕ, ◌+◌, ◌*◌, ◌^◌, List, [], ◌∷◌, eqb}
use Rattle.gif.specs.declared.Write.{Write}
use Rattle.fields.specs.Fields.{if, bits}
use Rattle.gif.specs.Log.{write}

-- "1 RGBAQ from bits 0-7, 32-39, 64-71, 96-103, Q on top"
unfoldable pub rgbaq : ℕ → ℕ → ℕ
rgbaq q quad =
    bits quad 0 7 + bits quad 32 39 * 2 ^ 8 + bits quad 64 71 * 2 ^ 16 + bits quad 96 103 * 2 ^ 24 + q * 2 ^ 32

-- "3 UV, 14 bits at 0 and 32 to 0 and 16"
unfoldable pub uv : ℕ → ℕ
uv quad = bits quad 0 13 + bits quad 32 45 * 2 ^ 16

-- "4 XYZF2: X 0-15, Y 32-47, Z 68-91, F 100-107 to bits 0, 16, 32, 56"
unfoldable pub xyzf : ℕ → ℕ
xyzf quad = bits quad 0 15 + bits quad 32 47 * 2 ^ 16 + bits quad 68 91 * 2 ^ 32 + bits quad 100 107 * 2 ^ 56

-- "5 XYZ2: X, Y likewise, Z 64-95 to bit 32"
unfoldable pub xyz : ℕ → ℕ
xyz quad = bits quad 0 15 + bits quad 32 47 * 2 ^ 16 + bits quad 64 95 * 2 ^ 32

-- "for 4 and 5, bit 111 set writes register 0Ch or 0Dh instead"
unfoldable pub redirected : ℕ → ℕ → ℕ
redirected d quad = if (eqb (bits quad 111 111) 1) (d + 8) d

-- the writes of a data quadword under a descriptor; B is refused before it comes here
unfoldable pub packed_writes : ℕ → ℕ → ℕ → List Write
packed_writes d q quad =
    -- "0 PRIM bits 0-10"
    if (eqb d 0x0) (write 0x0 (bits quad 0 10) ∷ [])
    -- "1 RGBAQ"
    (if (eqb d 0x1) (write 0x1 (rgbaq q quad) ∷ [])
    -- "3 UV"
    (if (eqb d 0x3) (write 0x3 (uv quad) ∷ [])
    -- "4 XYZF2"
    (if (eqb d 0x4) (write (redirected 0x4 quad) (xyzf quad) ∷ [])
    -- "5 XYZ2"
    (if (eqb d 0x5) (write (redirected 0x5 quad) (xyz quad) ∷ [])
    -- "A FOG bits 100-107 to bit 56"
    (if (eqb d 0xA) (write 0xA (bits quad 100 107 * 2 ^ 56) ∷ [])
    -- "E writes the low 64 bits to the register in bits 64-71"
    (if (eqb d 0xE) (write (bits quad 64 71) (bits quad 0 63) ∷ [])
    -- "F nothing"
    (if (eqb d 0xF) []
    -- "2 ST low 64 bits"; "6-9, C, D low 64 bits"
    (write d (bits quad 0 63) ∷ []))))))))

-- "2 ST low 64 bits, Q = bits 64-95"
unfoldable pub packed_q : ℕ → ℕ → ℕ → ℕ
packed_q d q quad = if (eqb d 2) (bits quad 64 95) q

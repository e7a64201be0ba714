-- The mask: document 01's "With M set, write i reads the mask as four rows of four 2-bit codes: row min(i mod WL, 3), X in the low bits."
use Rattle.std.specs.Prelude.{ℕ, ◌+◌, ◌*◌, ◌/◌, ◌%◌, ◌^◌, min, Bool, List, [], ◌∷◌}
use Rattle.fields.specs.Fields.{if}

unfoldable pub row_of_cycle : ℕ → ℕ → ℕ
row_of_cycle wl i = min (i % wl) 3

-- the code of a row and a field: row r is bits 8r to 8r+7, "X in the low bits"
unfoldable pub code_at : ℕ → ℕ → ℕ → ℕ
code_at mask r f = mask / 2 ^ (8 * r + 2 * f) % 4

abbrev pub code_row : ℕ → ℕ → List ℕ
code_row mask r = code_at mask r 0 ∷ code_at mask r 1 ∷ code_at mask r 2 ∷ code_at mask r 3 ∷ []

-- "With M clear all codes are 0": a mask of zeros
unfoldable pub mask_of : Bool → ℕ → ℕ
mask_of m mask = if m mask 0

-- the mask unfolded, "four rows of four 2-bit codes"
abbrev pub unfolded : ℕ → List (List ℕ)
unfolded mask = code_row mask 0 ∷ code_row mask 1 ∷ code_row mask 2 ∷ code_row mask 3 ∷ []

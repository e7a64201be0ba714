-- For proofs; no promise cites these: the GIF tag of a test sheet and its data.
use Rattle.std.specs.Prelude.{ℕ, ◌+◌, ◌^◌, List, [], ◌∷◌}
use Rattle.gif.specs.declared.Write.{Write}
use Rattle.fields.specs.Fields.{bits, quadword}
use Rattle.gif.specs.Log.{write}

-- "a GIF tag (NLOOP n, EOP 1, NREG 1, descriptor E, rest 0)"
unfoldable pub sheet_tag : ℕ → ℕ
sheet_tag n = quadword (n + 2 ^ 15 + 2 ^ 60) 14

-- "E writes the low 64 bits to the register in bits 64-71"
abbrev pub address_data : ℕ → Write
address_data quad = write (bits quad 64 71) (bits quad 0 63)

abbrev pub address_datas : List ℕ → List Write
address_datas [] = []
address_datas (x ∷ xs) = address_data x ∷ address_datas xs

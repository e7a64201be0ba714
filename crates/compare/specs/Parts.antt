-- The parts of a board: which are asked for is told by the sum of their numbers (docs/FORMATS.md, result files).
use Rattle.std.specs.Prelude.{ℕ, ◌/◌, ◌%◌, Bool, true, ◌≡◌, eqb}
use Rattle.fields.specs.Fields.{if}
use Rattle.memories.specs.declared.VifUnit.{VifUnit}
use Rattle.memories.specs.declared.VifUnit.TheVariants.{Vif0, Vif1}

-- a unit's data memory
abbrev pub data_part : VifUnit → ℕ
data_part Vif1 = 1
data_part Vif0 = 8

-- a unit's code memory
abbrev pub code_part : VifUnit → ℕ
code_part Vif1 = 2
code_part Vif0 = 16

-- the log with its entries used
abbrev pub log_part : ℕ
log_part = 4

-- the sum of all five
abbrev pub all_parts : ℕ
all_parts = 31

-- whether a sum has a part
unfoldable pub asks : ℕ → ℕ → Bool
asks parts part = eqb (parts / part % 2) 1

-- the same as a fact
abbrev pub Asked : ℕ → ℕ → Type 0
Asked parts part = asks parts part ≡ true

-- how many of n are looked at: none where the part is not asked for
unfoldable pub looked_at : Bool → ℕ → ℕ
looked_at asked n = if asked n 0

-- The VIF units and the sizes of the memories behind them: document 01's "modulo 1,024" quadwords of data and "modulo 2,048" instructions of VIF1,
-- and request 10's "The small unit, VIF0".
use Rattle.std.specs.Prelude.{ℕ, ◌*◌}
use Rattle.memories.specs.declared.VifUnit.{VifUnit}
use Rattle.memories.specs.declared.VifUnit.TheVariants.{Vif0, Vif1}

-- the quadwords of a unit's data memory; request 10: "256 quadwords of data, 512 instructions, lent as 1,024 words and 4,096 bytes. Addresses wrap at those
-- sizes."
abbrev pub quadwords : VifUnit → ℕ
quadwords Vif0 = 256
quadwords Vif1 = 1024

-- the instructions of a unit's code memory
abbrev pub instructions : VifUnit → ℕ
instructions Vif0 = 512
instructions Vif1 = 2048

-- data memory is lent by words, four a quadword
abbrev pub data_words : VifUnit → ℕ
data_words u = 4 * quadwords u

-- code memory is lent by bytes, eight an instruction
abbrev pub code_bytes : VifUnit → ℕ
code_bytes u = 8 * instructions u

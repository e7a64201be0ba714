-- The lengths that are refused: document 01's "2 data memory not 4,096 words; 3 code memory not 16,384 bytes", by the unit whose memories are lent, VIF0's, by
-- request 10, "as 1,024 words and 4,096 bytes"; then 4 as request 11 has it.
use Rattle.std.specs.Prelude.{ℕ, not, false, ◌≡◌, List, length, eqb}
use Rattle.fields.specs.Fields.{if}
use Rattle.fields.specs.Refusals.{data_length, code_length, log_length}
use Rattle.gif.specs.Log.{log_refused}
use Rattle.memories.specs.declared.VifUnit.{VifUnit}
use Rattle.memories.specs.Units.{data_words, code_bytes}

-- the memories that a step is lent: data memory by words, code memory by bytes, the log by numbers
pub record Lent : Type 0 where
  pub mem : List ℕ
  pub code : List ℕ
  pub log : List ℕ

abbrev pub lent : List ℕ → List ℕ → List ℕ → Lent
lent mem code log = record { mem = mem; code = code; log = log }

-- the refusal of their lengths, 0 for none
unfoldable pub lengths_refusal : VifUnit → Lent → ℕ → ℕ
lengths_refusal u m used =
    if (not (eqb (length m.mem) (data_words u))) data_length
    (if (not (eqb (length m.code) (code_bytes u))) code_length
    (if (log_refused m.log used) log_length
    0))

-- the same as facts: none of them is refused
pub record LengthsFit (u : VifUnit) (m : Lent) (used : ℕ) : Type 0 where
  pub long : length m.mem ≡ data_words u
  pub wide : length m.code ≡ code_bytes u
  pub logged : log_refused m.log used ≡ false

-- Feeding memories and a log: what inner functions require of their input; no promise of a public function cites it.
use Rattle.std.specs.Prelude.{ℕ, ◌+◌, ◌*◌, ◌≤◌, ◌≡◌, not, List, [], ◌∷◌, length, eqb, ltb}
use Rattle.fields.specs.Fields.{if}
use Rattle.fields.specs.Refusals.{log_full}
use Rattle.gif.specs.Log.{entry_size}
use Rattle.memories.specs.declared.VifUnit.TheVariants.{Vif1}
use Rattle.memories.specs.Units.{data_words, code_bytes}
use Rattle.sheet.specs.declared.sums.Totals.{Totals}
use Rattle.sheet.specs.Records.{Record, bytes_at, number}
use Rattle.sheet.specs.Sizes.{sheet_entries}
use Rattle.sheet.specs.Results.{length_refusal}
use Rattle.sheet.specs.Fed.{Fed, fed}
use Rattle.sheet_meaning.specs.declared.plain.Feeder.{Feeder}

-- the memories, the log and the entries used that a feeder has, and the feeder with others
abbrev pub fed_in : Feeder → Fed
fed_in f = fed f.data.now f.code.now f.log.now f.used

abbrev pub with_fed : Feeder → Fed → Feeder
with_fed f x =
    record f {
      «data» = record f.data { now = x.mem };
      code = record f.code { now = x.code };
      log = record f.log { now = x.log };
      used = x.used;
    }

-- a vector at a place: its four fields
abbrev pub vector_at : List ℕ → ℕ → List ℕ
vector_at xs at =
    number (bytes_at xs at 4)
    ∷ number (bytes_at xs (at + 4) 4)
    ∷ number (bytes_at xs (at + 8) 4)
    ∷ number (bytes_at xs (at + 12) 4)
    ∷ []

-- the memories have their lengths, and the log has room for the records' entries
pub record RecordsRoom (rs : List Record) (x : Fed) : Type 0 where
  pub words : length x.mem ≡ data_words Vif1
  pub bytes : length x.code ≡ code_bytes Vif1
  pub room : entry_size * (x.used + sheet_entries rs) ≤ length x.log

-- the refusal of records with such sums, 0 for none: of the lengths (2, 3, 4), and then 31 where the log has no room for the entries
unfoldable pub feed_refusal : Totals → Fed → ℕ
feed_refusal t x =
    if (not (eqb (length_refusal x.mem x.code x.log x.used) 0)) (length_refusal x.mem x.code x.log x.used)
    (if (ltb (length x.log) (entry_size * (x.used + t.entries))) log_full
    0)

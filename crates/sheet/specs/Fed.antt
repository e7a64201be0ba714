-- Memories and a log fed with records, which is their plain meaning with a log for its entries; no promise of a public function cites it.
use Rattle.std.specs.Prelude.{ℕ, ◌+◌, ◌*◌, List, [], ◌∷◌}
use Rattle.std.proofs.lemmas.List.Edits.{sets}
use Rattle.gif.specs.Log.{entry_size, numbers}
use Rattle.sheet.specs.Records.{Record}
use Rattle.sheet.specs.Sizes.{entries_of}
use Rattle.sheet.specs.Meaning.{entries_by, mem_by, code_by}

-- the memories, the log and the entries used while a sheet is fed
pub record Fed : Type 0 where
  pub mem : List ℕ
  pub code : List ℕ
  pub log : List ℕ
  pub used : ℕ

abbrev pub fed : List ℕ → List ℕ → List ℕ → ℕ → Fed
fed mem code log used = record { mem = mem; code = code; log = log; used = used }

-- what a record does to them
unfoldable pub fed_by : Record → Fed → Fed
fed_by r x =
    fed (mem_by r.kind r.count r.address r.body x.mem) (code_by r.kind r.count r.address r.body x.code)
    (sets x.log (entry_size * x.used) (numbers (entries_by r.kind r.count r.address r.body)))
    (x.used + entries_of r.kind r.count)

-- what records do to them, in order
unfoldable pub fed_all : List Record → Fed → Fed
fed_all [] x = x
fed_all (r ∷ rs) x = fed_all rs (fed_by r x)

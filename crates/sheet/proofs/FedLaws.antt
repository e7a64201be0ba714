-- Feeding the memories and a log is the plain meaning.
use mathlib.Core.Path.{◌≡◌, refl}
use mathlib.Core.List.{List, [], ◌∷◌}
use Prim.Native.Nat.{ℕ, ◌+◌, ◌*◌, ◌≤◌}
use native.Mathlib.Omega.{arith}
use lib.ListN.{length, length-append}
use Rattle.gif.specs.declared.Entry.{Entry}
use Rattle.gif.specs.Log.{entry_size}
use Rattle.sheet.specs.Records.{Record}
use Rattle.sheet.specs.Sizes.{entries_of, sheet_entries}
use Rattle.sheet.specs.Meaning.{Plain, entries_by, fed_record, meaning_of}
use Rattle.sheet.specs.Results.{log_with}
use Rattle.sheet.specs.Fed.{Fed, fed, fed_by, fed_all}
use Rattle.sheet.proofs.MeaningLaws.{row_count, fed_count, log_then}

-- ---- the machine's state with a log for its entries

abbrev pub fed_plain : Plain → List ℕ → Fed
fed_plain x log = fed x.mem x.code (log_with x.entries log) (length x.entries)

pub fed_record_lem : (r : Record) (x : Plain) (log : List ℕ) → entry_size * (length x.entries + entries_of r.kind r.count) ≤ length log
    → fed_by r (fed_plain x log) ≡ fed_plain (fed_record r x) log
unfolding fed_by fed_record
fed_record_lem r x log h =
    let c = row_count r.kind r.count r.address r.body in
    let es : List Entry = entries_by r.kind r.count r.address r.body in
    rw (log_then x.entries es log (rw c h), length-append x.entries es, c)

pub fed_sheet : (rs : List Record) (x : Plain) (log : List ℕ) → entry_size * (length x.entries + sheet_entries rs) ≤ length log
    → fed_all rs (fed_plain x log) ≡ fed_plain (meaning_of rs x) log
unfolding fed_all meaning_of sheet_entries
fed_sheet [] x log h = refl
fed_sheet (r ∷ rs) x log h = rw (fed_record_lem r x log (omega arith)) (fed_sheet rs (fed_record r x) log (omega (arith, fed_count r x)))

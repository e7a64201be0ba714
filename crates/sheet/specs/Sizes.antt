-- Sums over a sheet's records: document 01's "Quadwords: 2+n, 2+ceil(n/2), 3+n, 2 and 1. Steps: 5+4n, 5+4ceil(n/2), 6+n, 5 and 1. A sheet's steps are the sum over
-- its records and the end tag."
use Rattle.std.specs.Prelude.{ℕ, ◌+◌, ◌*◌, ◌/◌, List, [], ◌∷◌}
use Rattle.sheet.specs.declared.Kind.{Kind}
use Rattle.sheet.specs.declared.Kind.TheVariants.{Data, Code, Gs, Start}
use Rattle.sheet.specs.Records.{Record}

-- ceil(n/2)
abbrev pub halved : ℕ → ℕ
halved n = (n + 1) / 2

-- the quadwords of a record in the chain, its tag included
abbrev pub record_quadwords : Kind → ℕ → ℕ
record_quadwords Data n = 2 + n
record_quadwords Code n = 2 + halved n
record_quadwords Gs n = 3 + n
record_quadwords Start n = 2

abbrev pub record_steps : Kind → ℕ → ℕ
record_steps Data n = 5 + 4 * n
record_steps Code n = 5 + 4 * halved n
record_steps Gs n = 6 + n
record_steps Start n = 5

-- the log entries of a record
abbrev pub entries_of : Kind → ℕ → ℕ
entries_of Data n = 0
entries_of Code n = 0
entries_of Gs n = n
entries_of Start n = 1

-- the sums; the end tag is one quadword and one step
unfoldable pub sheet_quadwords : List Record → ℕ
sheet_quadwords [] = 1
sheet_quadwords (r ∷ rs) = record_quadwords r.kind r.count + sheet_quadwords rs

unfoldable pub sheet_steps : List Record → ℕ
sheet_steps [] = 1
sheet_steps (r ∷ rs) = record_steps r.kind r.count + sheet_steps rs

unfoldable pub sheet_entries : List Record → ℕ
sheet_entries [] = 0
sheet_entries (r ∷ rs) = entries_of r.kind r.count + sheet_entries rs

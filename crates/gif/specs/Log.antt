-- The log: document 01's "Each write is a log entry" and request 11's "A log entry becomes three numbers: path, register, value."
use Rattle.std.specs.Prelude.{ℕ, zero, suc, ◌+◌, ◌*◌, ◌%◌, ◌≤◌, Bool, true, false, not, ◌||◌, List, [], ◌∷◌, length, eqb, ltb}
use Rattle.std.proofs.lemmas.List.Edits.{sets}
use Rattle.fields.specs.Fields.{if}
use Rattle.gif.specs.declared.GifPath.{GifPath}
use Rattle.gif.specs.declared.GifPath.TheVariants.{Two, Three}
use Rattle.gif.specs.declared.Write.{Write}
use Rattle.gif.specs.declared.Entry.{Entry}

-- an entry takes three numbers of the log
abbrev pub entry_size : ℕ
entry_size = 3

abbrev pub entry : ℕ → ℕ → ℕ → Entry
entry p r v = record { path = p; register = r; value = v }

-- "three numbers: path, register, value": entries as they stand in the log
abbrev pub numbers : List Entry → List ℕ
numbers [] = []
numbers (e ∷ es) = e.path ∷ e.register ∷ e.value ∷ numbers es

-- the first n entries of a log
abbrev pub entries_in : List ℕ → ℕ → List Entry
entries_in log zero = []
entries_in [] (suc n) = []
entries_in (p ∷ []) (suc n) = []
entries_in (p ∷ r ∷ []) (suc n) = []
entries_in (p ∷ r ∷ v ∷ log) (suc n) = entry p r v ∷ entries_in log n

-- "Path is 2 or 3 for GIF writes"
abbrev pub path_number : GifPath → ℕ
path_number Two = 2
path_number Three = 3

-- "and 0 for program starts"
abbrev pub start_path : ℕ
start_path = 0

abbrev pub start_entry : ℕ → ℕ → Entry
start_entry r v = entry start_path r v

-- a register's write
abbrev pub write : ℕ → ℕ → Write
write r v = record { register = r; value = v }

-- "Each write is a log entry", with the number of its path
abbrev pub entry_by : GifPath → Write → Entry
entry_by which w = entry (path_number which) w.register w.value

abbrev pub entries_by : GifPath → List Write → List Entry
entries_by which [] = []
entries_by which (w ∷ ws) = entry_by which w ∷ entries_by which ws

-- so many entries more fit after the first `used` ones
abbrev pub HasRoom : List ℕ → ℕ → ℕ → Type 0
HasRoom log used n = entry_size * (used + n) ≤ length log

-- entries stored after the first `used` ones
unfoldable pub logged : List ℕ → ℕ → List Entry → List ℕ
logged log used es = sets log (entry_size * used) (numbers es)

-- whether the log lacks room for so many: "31, where the step's writes don't all fit"; request 11: "31 counts three numbers an entry"
unfoldable pub lacks_room : List ℕ → ℕ → ℕ → Bool
lacks_room log used n = ltb (length log) (entry_size * (used + n))

-- "above 196,608 numbers"
abbrev pub log_most : ℕ
log_most = 196608

-- request 11: "4 now means a length not a multiple of 3, above 196,608 numbers, or below three times the entries used"
unfoldable pub log_refused : List ℕ → ℕ → Bool
log_refused log used =
    not (eqb (length log % entry_size) 0) || (ltb log_most (length log) || ltb (length log) (entry_size * used))

-- one entry stored where there is room for it, and whether it was
pub record Entered : Type 0 where
  pub stored : Bool
  pub log : List ℕ

abbrev pub entered : Bool → List ℕ → Entered
entered b log = record { stored = b; log = log }

unfoldable pub entry_of : List ℕ → ℕ → Entry → Entered
entry_of log used e = if (lacks_room log used 1) (entered false log) (entered true (logged log used (e ∷ [])))

-- what a log that 4 does not name fulfils, as facts for inner functions
pub record LogFits (log : List ℕ) (used : ℕ) : Type 0 where
  pub short : length log ≤ log_most
  pub holds : entry_size * used ≤ length log

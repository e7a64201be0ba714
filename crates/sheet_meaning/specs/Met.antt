-- Records matched one after another: what inner functions require of their input, and what they make of it; no promise of a public function cites them.
use Rattle.std.specs.Prelude.{ℕ, ◌+◌, ◌*◌, ◌≤◌, Bool, true, false, ◌≡◌, List, [], ◌∷◌, length, get_or, ltb}
use Rattle.fields.specs.Fields.{if}
use Rattle.gif.specs.declared.Entry.{Entry}
use Rattle.gif.specs.Log.{entry_size, entry}
use Rattle.memories.specs.declared.VifUnit.TheVariants.{Vif1}
use Rattle.memories.specs.Units.{data_words, code_bytes}
use Rattle.sheet_meaning.specs.declared.matching.Front.{Front}
use Rattle.sheet_meaning.specs.declared.matching.Matcher.{Matcher}
use Rattle.sheet.specs.Records.{Record}
use Rattle.sheet.specs.Meaning.{entries_by, mem_by, code_by}
use Rattle.sheet.specs.Match.{same_entry}
use Rattle.sheet.specs.Results.{length_refusal}

-- how many entries at the front are the same, and whether all so far were
abbrev pub front : ℕ → Bool → Front
front n whole = record { leading = n; whole = whole }

-- entry k of a log, by its numbers
abbrev pub entry_in : List ℕ → ℕ → Entry
entry_in log k = entry (get_or log (entry_size * k) 0) (get_or log (entry_size * k + 1) 0) (get_or log (entry_size * k + 2) 0)

-- an entry beside the log's next
unfoldable pub next_front : List ℕ → ℕ → ℕ → Entry → Front
next_front log used n e =
    if (ltb n used) (if (same_entry e (entry_in log n)) (front (n + 1) true) (front n false))
    (front n false)

unfoldable pub met : List ℕ → ℕ → Entry → Front → Front
met log used e f = if f.whole (next_front log used f.leading e) f

-- entries in order
unfoldable pub met_all : List ℕ → ℕ → List Entry → Front → Front
met_all log used [] f = f
met_all log used (e ∷ es) f = met_all log used es (met log used e f)

-- the memories and the front while a sheet is matched
pub record Matching : Type 0 where
  pub mem : List ℕ
  pub code : List ℕ
  pub front : Front

abbrev pub matching : List ℕ → List ℕ → Front → Matching
matching mem code f = record { mem = mem; code = code; front = f }

-- those that a matcher has, and the matcher with others
abbrev pub matching_in : Matcher → Matching
matching_in m = matching m.data.now m.code.now m.front

abbrev pub with_matching : Matcher → Matching → Matcher
with_matching m x = record m { «data» = record m.data { now = x.mem }; code = record m.code { now = x.code }; front = x.front }

-- what a record does to them
unfoldable pub matched_by : List ℕ → ℕ → Record → Matching → Matching
matched_by log used r x =
    matching (mem_by r.kind r.count r.address r.body x.mem) (code_by r.kind r.count r.address r.body x.code)
    (met_all log used (entries_by r.kind r.count r.address r.body) x.front)

-- what records do to them, in order
unfoldable pub matched_all : List ℕ → ℕ → List Record → Matching → Matching
matched_all log used [] x = x
matched_all log used (r ∷ rs) x = matched_all log used rs (matched_by log used r x)

-- the memories have their lengths, and the log has its entries
pub record MatchRoom (log : List ℕ) (used : ℕ) (rs : List Record) (x : Matching) : Type 0 where
  pub words : length x.mem ≡ data_words Vif1
  pub bytes : length x.code ≡ code_bytes Vif1
  pub held : entry_size * used ≤ length log

-- the refusal of the lengths (2, 3, 4), 0 for none
abbrev pub match_refusal : List ℕ → ℕ → Matching → ℕ
match_refusal log used x = length_refusal x.mem x.code log used

-- The meaning of a sheet beside a log: what it makes of the memories, and how far its entries and those of the log are the same.
use Rattle.std.specs.Prelude.{ℕ, suc, Bool, ◌&&◌, List, [], ◌∷◌, length, eqb}
use Rattle.fields.specs.Fields.{if}
use Rattle.gif.specs.declared.Entry.{Entry}
use Rattle.gif.specs.Log.{entries_in}
use Rattle.sheet.specs.MatchAnswer.{MatchAnswer, Matched, Refused as MatchRefused}
use Rattle.sheet.specs.Reader.{Contents, valid, refused}
use Rattle.sheet.specs.Editions.{contents_of}
use Rattle.sheet.specs.Meaning.{Plain, plain, meaning_of}
use Rattle.sheet.specs.Results.{length_refusal}

-- request 11: "A log entry becomes three numbers: path, register, value."
unfoldable pub same_entry : Entry → Entry → Bool
same_entry e f = (eqb f.path e.path && eqb f.register e.register) && eqb f.value e.value

-- how many entries at the front of two lists are the same
unfoldable pub leading : List Entry → List Entry → ℕ
leading [] fs = 0
leading (e ∷ es) [] = 0
leading (e ∷ es) (f ∷ fs) = if (same_entry e f) (suc (leading es fs)) 0

-- what `match_meaning` leaves
pub record Left : Type 0 where
  pub answer : MatchAnswer
  pub mem : List ℕ
  pub code : List ℕ

abbrev pub left : MatchAnswer → List ℕ → List ℕ → Left
left a mem code = record { answer = a; mem = mem; code = code }

-- the meaning beside a list of entries: how far its entries and those are the same, and how many it has
abbrev pub left_beside : Plain → List Entry → Left
left_beside x es = left (Matched (leading x.entries es) (length x.entries)) x.mem x.code

-- the meaning from an empty list of entries
abbrev pub match_in : Contents → List ℕ → List ℕ → List Entry → Left
match_in (valid rs) mem code es = left_beside (meaning_of rs (plain mem code [])) es
match_in (refused n offset) mem code es = left (MatchRefused n offset) mem code

-- the lengths first, as a run on VIF1 tests them: 2, 3, 4
unfoldable pub match_of_sheet : List ℕ → List ℕ → List ℕ → List ℕ → ℕ → Left
match_of_sheet sheet mem code log used =
    if (eqb (length_refusal mem code log used) 0) (match_in (contents_of sheet) mem code (entries_in log used))
    (left (MatchRefused (length_refusal mem code log used) 0) mem code)

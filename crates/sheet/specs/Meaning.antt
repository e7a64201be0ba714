-- The plain meaning: document 01's "Its plain meaning is a machine fed the records in order. Its state is the data memory, the code memory and the list of log
-- entries, at first as the run gets them. Each record does what its row says to what the last one left, j from 0 to n-1 in order: vector j is bytes 16j to 16j+15
-- of the body, instruction j bytes 8j to 8j+7, entry j the register and value in bytes 16j to 16j+15. Entries go to the list's end. All else in this state stays."
use Rattle.std.specs.Prelude.{ℕ, zero, suc, ◌+◌, ◌*◌, ◌%◌, List, [], ◌∷◌, ◌++◌}
use Rattle.std.proofs.lemmas.List.Edits.{sets}
use Rattle.gif.specs.declared.Entry.{Entry}
use Rattle.gif.specs.Log.{entry}
use Rattle.memories.specs.declared.VifUnit.TheVariants.{Vif1}
use Rattle.memories.specs.Units.{quadwords, instructions}
use Rattle.sheet.specs.declared.Kind.{Kind}
use Rattle.sheet.specs.declared.Kind.TheVariants.{Data, Code, Gs, Start}
use Rattle.sheet.specs.Records.{Record, bytes_at, number}

-- the machine's state: data memory by words, code memory by bytes, and the list of log entries
pub record Plain : Type 0 where
  pub mem : List ℕ
  pub code : List ℕ
  pub entries : List Entry

abbrev pub plain : List ℕ → List ℕ → List Entry → Plain
plain mem code entries = record { mem = mem; code = code; entries = entries }

-- "vector j is bytes 16j to 16j+15 of the body": its four fields, X first
abbrev pub vector_of : List ℕ → ℕ → List ℕ
vector_of body j =
    number (bytes_at body (16 * j) 4)
    ∷ number (bytes_at body (16 * j + 4) 4)
    ∷ number (bytes_at body (16 * j + 8) 4)
    ∷ number (bytes_at body (16 * j + 12) 4)
    ∷ []

-- "vector j to (address+j) mod 1,024": n vectors from number j on
unfoldable pub put_vectors : ℕ → List ℕ → ℕ → ℕ → List ℕ → List ℕ
put_vectors a body zero j mem = mem
put_vectors a body (suc n) j mem = put_vectors a body n (suc j) (sets mem (4 * ((a + j) % quadwords Vif1)) (vector_of body j))

-- "instruction j to (address+j) mod 2,048"; "instruction j bytes 8j to 8j+7"
unfoldable pub put_instructions : ℕ → List ℕ → ℕ → ℕ → List ℕ → List ℕ
put_instructions a body zero j code = code
put_instructions a body (suc n) j code = put_instructions a body n (suc j) (sets code (8 * ((a + j) % instructions Vif1)) (bytes_at body (8 * j) 8))

-- "16n: value 8, register 1, zero 7": entry j; request 11: "In a sheet's meaning, GS entries have path 2"
abbrev pub entry_at : List ℕ → ℕ → Entry
entry_at body j = entry 2 (number (bytes_at body (16 * j + 8) 1)) (number (bytes_at body (16 * j) 8))

-- "n log entries": those from number j on
unfoldable pub entries_at : List ℕ → ℕ → ℕ → List Entry
entries_at body zero j = []
entries_at body (suc n) j = entry_at body j ∷ entries_at body n (suc j)

-- the entries of a record; "log entry 256, address"; request 11: "and start entries path 0"
abbrev pub entries_by : Kind → ℕ → ℕ → List ℕ → List Entry
entries_by Data n a body = []
entries_by Code n a body = []
entries_by Gs n a body = entries_at body n 0
entries_by Start n a body = entry 0 256 a ∷ []

abbrev pub mem_by : Kind → ℕ → ℕ → List ℕ → List ℕ → List ℕ
mem_by Data n a body mem = put_vectors a body n 0 mem
mem_by Code n a body mem = mem
mem_by Gs n a body mem = mem
mem_by Start n a body mem = mem

abbrev pub code_by : Kind → ℕ → ℕ → List ℕ → List ℕ → List ℕ
code_by Data n a body code = code
code_by Code n a body code = put_instructions a body n 0 code
code_by Gs n a body code = code
code_by Start n a body code = code

-- "Each record does what its row says to what the last one left"
unfoldable pub fed_record : Record → Plain → Plain
fed_record r x =
    plain (mem_by r.kind r.count r.address r.body x.mem) (code_by r.kind r.count r.address r.body x.code)
    (x.entries ++ entries_by r.kind r.count r.address r.body)

-- "a machine fed the records in order"
unfoldable pub meaning_of : List Record → Plain → Plain
meaning_of [] x = x
meaning_of (r ∷ rs) x = meaning_of rs (fed_record r x)

-- The plain meaning: numbers of bytes, one item after another, the entries, and the log.
use mathlib.Core.Path.{◌≡◌, refl, sym, ap, ◌∙◌}
use mathlib.Core.List.{List, [], ◌∷◌, ◌++◌, append_assoc, append-nil}
use Prim.Native.Nat.{ℕ, zero, suc, ◌+◌, ◌*◌, ◌%◌, ◌≤◌}
use native.Mathlib.Omega.{arith}
use lib.ListN.{length, drop, length-append, length-drop, take-append-drop}
use lib.Seq.{sets, length-sets, sets-eq, take_at, drop-append-add, drop-drop}
use Rattle.gif.specs.declared.Entry.{Entry}
use Rattle.gif.specs.Log.{entry_size, numbers, entries_in}
use Rattle.gif.proofs.LogLaws.{numbers_length, numbers_append, numbers_in, in_count}
use Rattle.memories.specs.declared.VifUnit.TheVariants.{Vif1}
use Rattle.memories.specs.Units.{quadwords, instructions}
use Rattle.sheet.specs.declared.Kind.{Kind}
use Rattle.sheet.specs.declared.Kind.TheVariants.{Data, Code, Gs, Start}
use Rattle.sheet.specs.Records.{Record, bytes_at}
use Rattle.sheet.specs.Sizes.{entries_of, sheet_entries}
use Rattle.sheet.specs.Meaning.{Plain, plain, vector_of, put_vectors, put_instructions, entries_at, entries_by, mem_by, code_by, fed_record, meaning_of}
use Rattle.sheet.specs.Results.{log_with}

-- ---- n items stored one after another

-- those from number j on; item j goes to its place
pub record Turns (puts : ℕ → ℕ → List ℕ → List ℕ) (place : ℕ → ℕ) (item : ℕ → List ℕ) : Type 0 where
  pub none : (j : ℕ) (m : List ℕ) → puts 0 j m ≡ m
  pub more : (n j : ℕ) (m : List ℕ) → puts (suc n) j m ≡ puts n (suc j) (sets m (place j) (item j))

module _ {puts : ℕ → ℕ → List ℕ → List ℕ} {place : ℕ → ℕ} {item : ℕ → List ℕ} (t : Turns puts place item) where
  pub turns_keep : (n j : ℕ) (m : List ℕ) → length (puts n j m) ≡ length m
  turns_keep zero j m = ap length (t.none j m)
  turns_keep (suc n) j m =
      ap length (t.more n j m) ∙ turns_keep n (suc j) (sets m (place j) (item j)) ∙ length-sets m (place j) (item j)

module _ (a : ℕ) (body : List ℕ) where
  pub vector_turns : Turns (put_vectors a body) (λ (j : ℕ). 4 * ((a + j) % quadwords Vif1)) (vector_of body)
  unfolding put_vectors
  vector_turns = record { none = λ j m. refl; more = λ n j m. refl }

  pub instruction_turns : Turns (put_instructions a body) (λ (j : ℕ). 8 * ((a + j) % instructions Vif1)) (λ (j : ℕ). bytes_at body (8 * j) 8)
  unfolding put_instructions
  instruction_turns = record { none = λ j m. refl; more = λ n j m. refl }

-- ---- how many entries

pub entries_count : (body : List ℕ) (n j : ℕ) → length (entries_at body n j) ≡ n
unfolding entries_at
entries_count body zero j = refl
entries_count body (suc n) j = ap suc (entries_count body n (suc j))

pub row_count : (k : Kind) (n a : ℕ) (body : List ℕ) → length (entries_by k n a body) ≡ entries_of k n
row_count Data n a body = refl
row_count Code n a body = refl
row_count Gs n a body = entries_count body n 0
row_count Start n a body = refl

pub fed_count : (r : Record) (x : Plain) → length (fed_record r x).entries ≡ length x.entries + entries_of r.kind r.count
unfolding fed_record
fed_count r x = rw (length-append, row_count)

-- a meaning's entries are those given and those of the sheet
pub meaning_count : (rs : List Record) (x : Plain) → length (meaning_of rs x).entries ≡ length x.entries + sheet_entries rs
unfolding meaning_of sheet_entries
meaning_count [] x = omega arith
meaning_count (r ∷ rs) x = omega (arith, meaning_count rs (fed_record r x), fed_count r x)

-- those of the sheet come after those given
pub meaning_entries : (rs : List Record) (x : Plain) → (meaning_of rs x).entries ≡ x.entries ++ (meaning_of rs (plain [] [] [])).entries
unfolding meaning_of fed_record
meaning_entries [] x = sym (append-nil x.entries)
meaning_entries (r ∷ rs) x =
    let es : List Entry = entries_by r.kind r.count r.address r.body in
    meaning_entries rs (fed_record r x) ∙ rw (meaning_entries rs (fed_record r (plain [] [] []))) (append_assoc x.entries es _)

-- ---- memories keep their lengths

pub mem_kept : (k : Kind) (n a : ℕ) (body mem : List ℕ) → length (mem_by k n a body mem) ≡ length mem
mem_kept Data n a body mem = turns_keep (vector_turns a body) n 0 mem
mem_kept Code n a body mem = refl
mem_kept Gs n a body mem = refl
mem_kept Start n a body mem = refl

pub code_kept : (k : Kind) (n a : ℕ) (body code : List ℕ) → length (code_by k n a body code) ≡ length code
code_kept Data n a body code = refl
code_kept Code n a body code = turns_keep (instruction_turns a body) n 0 code
code_kept Gs n a body code = refl
code_kept Start n a body code = refl

pub meaning_kept : (rs : List Record) (x : Plain) → (length (meaning_of rs x).mem ≡ length x.mem) × (length (meaning_of rs x).code ≡ length x.code)
unfolding meaning_of fed_record
meaning_kept [] x = (refl, refl)
meaning_kept (r ∷ rs) x =
    let h = meaning_kept rs (fed_record r x) in
    (h.0 ∙ mem_kept r.kind r.count r.address r.body x.mem, h.1 ∙ code_kept r.kind r.count r.address r.body x.code)

-- ---- the log

pub log_same : (log : List ℕ) (n : ℕ) → entry_size * n ≤ length log → log_with (entries_in log n) log ≡ log
log_same log n h = rw (in_count log n h, numbers_in log n h) (take-append-drop (entry_size * n) log)

-- stores at a seam
sets_seam : (p q ys : List ℕ) (n : ℕ) → length p ≡ n → length ys ≤ length q → sets (p ++ q) n ys ≡ p ++ ys ++ drop (length ys) q
sets_seam p q ys n e h =
    sets-eq ys (p ++ q) n (rw (length-append p q) (omega arith)) ∙ rw (take_at p q n e, ← e, drop-append-add p q (length ys))

-- stores behind the first entries add entries
pub log_then : (es fs : List Entry) (log : List ℕ) → entry_size * (length es + length fs) ≤ length log
    → sets (log_with es log) (entry_size * length es) (numbers fs) ≡ log_with (es ++ fs) log
log_then es fs log h =
    let m = numbers_length fs in
    let k : entry_size * length es + entry_size * length fs ≡ entry_size * (length es + length fs) = omega arith in
    sets_seam (numbers es) (drop (entry_size * length es) log) (numbers fs) (entry_size * length es) (numbers_length es) (rw (length-drop (entry_size * length es) log) (omega arith))
    ∙ rw (drop-drop (length (numbers fs)) (entry_size * length es) log, m, k, numbers_append es fs, length-append es fs)

-- entries more in a log
pub log_more : (log : List ℕ) (used : ℕ) (es : List Entry) → entry_size * (used + length es) ≤ length log
    → log_with (entries_in log used ++ es) log ≡ sets log (entry_size * used) (numbers es)
log_more log used es h =
    let n = in_count log used (omega arith) in
    sym (log_then (entries_in log used) es log (rw n h)) ∙ rw (log_same log used (omega arith), n)

-- Feeding a body: numbers of bytes, and one item after another.
use mathlib.Core.Path.{◌≡◌, refl, sym, ap, ◌∙◌}
use mathlib.Core.List.{List, [], ◌∷◌}
use Prim.Native.Nat.{ℕ, suc, ◌+◌, ◌*◌, ◌-◌, ◌%◌, ◌≤◌, ◌<◌}
use native.Mathlib.Nat.{add-zero, sub-zero}
use native.Mathlib.Numerals.{add-one}
use native.Mathlib.Omega.{arith}
use lib.ListN.{length, get_or}
use lib.Seq.{sets, length-sets}
use Rattle.gif.specs.declared.Entry.{Entry}
use Rattle.gif.specs.Log.{entry_size, entry, numbers}
use Rattle.memories.specs.declared.VifUnit.TheVariants.{Vif1}
use Rattle.memories.specs.Units.{quadwords, instructions}
use borrow.Rule.Slice.PartMut.{put_mid}
use Rattle.fields.specs.Memory.{word_at, long_at}
use Rattle.sheet.proofs.ListLaws.{put_part}
use Rattle.sheet.specs.Records.{bytes_at, number}
use Rattle.sheet.specs.Meaning.{vector_of, put_vectors, put_instructions, entry_at, entries_at}
use Rattle.sheet.proofs.MeaningLaws.{Turns, vector_turns, instruction_turns}
use Rattle.sheet_meaning.specs.Feeding.{vector_at}
use Rattle.sheet_meaning.proofs.ByteLaws.{bytes_inside, bytes_more, bytes_four}

-- ---- numbers in bytes

number_byte : (l : List ℕ) (i : ℕ) → i < length l → number (bytes_at l i 1) ≡ get_or l i 0
number_byte l i h = rw (bytes_more l i 0 {k = i + 1} h refl) (omega arith)

number_word : (l : List ℕ) (i : ℕ) → i + 4 ≤ length l → word_at l i ≡ number (bytes_at l i 4)
unfolding word_at
number_word l i h = rw (bytes_four l i 0 h) (omega arith)

pub number_long : (l : List ℕ) (i : ℕ) → i + 8 ≤ length l → long_at l i ≡ number (bytes_at l i 8)
unfolding word_at long_at
number_long l i h = rw (bytes_four l i 4 (omega arith), bytes_four l (i + 4) 0 (omega arith)) (omega arith)

-- ---- n items stored one after another

-- a loop that stores them: those from number j on are left
pub record Going (puts : ℕ → ℕ → List ℕ → List ℕ) (n : ℕ) (first : List ℕ) (j : ℕ) (m : List ℕ) : Type 0 where
  pub most : j ≤ n
  pub size : length m ≡ length first
  pub same : puts (n - j) j m ≡ puts n 0 first

-- it begins with all of them
pub turns_begin : {puts : ℕ → ℕ → List ℕ → List ℕ} {n : ℕ} {m : List ℕ} → Going puts n m 0 m
turns_begin = record { most = omega arith; size = refl; same = rw sub-zero }

module _ {puts : ℕ → ℕ → List ℕ → List ℕ} {place : ℕ → ℕ} {item : ℕ → List ℕ} (t : Turns puts place item) where
  -- goes on by one
  pub turns_on : {n j : ℕ} {first m m' x : List ℕ} → Going puts n first j m → j < n → m' ≡ sets m (place j) x → x ≡ item j → Going puts n first (j + 1) m'
  turns_on {n} {j} {first} {m} {m'} {x} g h e q =
      let k : n - j ≡ suc (n - suc j) = omega arith in
      record {
        most = omega arith;
        size = ap length e ∙ length-sets m (place j) x ∙ g.size;
        same = rw (e, q, add-one) (sym (t.more (n - suc j) j m)) ∙ rw k at g.same;
      }

  -- and ends with none
  pub turns_end : {n j : ℕ} {first m : List ℕ} → Going puts n first j m → n ≤ j → m ≡ puts n 0 first
  turns_end {n} {j} {first} {m} g h =
      let k : n - j ≡ 0 = omega arith in
      sym (t.none j m) ∙ rw k at g.same

-- entries into a log, those from number j on behind the ones before them
unfoldable pub put_entries : ℕ → List ℕ → ℕ → ℕ → List ℕ → List ℕ
put_entries used body n j log = sets log (entry_size * (used + j)) (numbers (entries_at body n j))

module _ (a : ℕ) (body : List ℕ) where
  pub entry_turns : Turns (put_entries a body) (λ (j : ℕ). entry_size * (a + j)) (λ (j : ℕ). numbers (entry_at body j ∷ []))
  unfolding put_entries entries_at
  entry_turns =
      record { none = λ j m. refl; more = λ n j m. let e : entry_size * (a + suc j) ≡ suc (suc (suc (entry_size * (a + j)))) = omega arith in rw e }

-- all entries
pub entries_all : (used : ℕ) (body : List ℕ) (n : ℕ) (log : List ℕ) → put_entries used body n 0 log ≡ sets log (entry_size * used) (numbers (entries_at body n 0))
unfolding put_entries
entries_all used body n log = rw add-zero

-- ---- the items of a body, where the body lies in the sheet

pub vector_stored : (m l : List ℕ) (q i : ℕ) {x y z w : ℕ} {v : List ℕ} → i + 16 ≤ length l → 4 * q + 4 ≤ length m
    → x ≡ word_at l i → y ≡ word_at l (i + 4) → z ≡ word_at l (i + 8) → w ≡ word_at l (i + 12)
    → v ≡ x ∷ y ∷ z ∷ w ∷ []
    → put_mid (4 * q) (4 * q + 4 - 4 * q) m v ≡ sets m (4 * q) (vector_at l i)
vector_stored m l q i h g ex ey ez ew e =
    rw (e, ex, ey, ez, ew, number_word l i (omega arith), number_word l (i + 4) (omega arith), number_word l (i + 8) (omega arith), number_word l (i + 12) (omega arith))
    (put_part m (vector_at l i) (4 * q) (4 * q + 4 - 4 * q) (omega arith) (omega arith))

module _ (l : List ℕ) (b n j : ℕ) (h : j < n) where
  vector_inside : vector_at l (b + 16 * j) ≡ vector_of (bytes_at l b (16 * n)) j
  vector_inside =
      rw (
        bytes_inside l b (16 * n) (16 * j) 4 {k = b + 16 * j} (omega arith) refl,
        bytes_inside l b (16 * n) (16 * j + 4) 4 {k = b + 16 * j + 4} (omega arith) (omega arith),
        bytes_inside l b (16 * n) (16 * j + 8) 4 {k = b + 16 * j + 8} (omega arith) (omega arith),
        bytes_inside l b (16 * n) (16 * j + 12) 4 {k = b + 16 * j + 12} (omega arith) (omega arith),
      )

  instruction_inside : bytes_at l (b + 8 * j) 8 ≡ bytes_at (bytes_at l b (8 * n)) (8 * j) 8
  instruction_inside = rw (bytes_inside l b (8 * n) (8 * j) 8 {k = b + 8 * j} (omega arith) refl)

  pub entry_inside : {e : Entry} → b + 16 * n ≤ length l → e ≡ entry 2 (get_or l (b + 16 * j + 8) 0) (number (bytes_at l (b + 16 * j) 8))
      → e ≡ entry_at (bytes_at l b (16 * n)) j
  entry_inside f q =
      rw (
        q,
        bytes_inside l b (16 * n) (16 * j + 8) 1 {k = b + 16 * j + 8} (omega arith) (omega arith),
        bytes_inside l b (16 * n) (16 * j) 8 {k = b + 16 * j} (omega arith) refl,
        number_byte l (b + 16 * j + 8) (omega arith),
      )

-- ---- the next item stored

module _ (l : List ℕ) (b a : ℕ) {n j : ℕ} {first m m' : List ℕ} where
  pub vector_on : Going (put_vectors a (bytes_at l b (16 * n))) n first j m → j < n → m' ≡ sets m (4 * ((a + j) % quadwords Vif1)) (vector_at l (b + 16 * j))
      → Going (put_vectors a (bytes_at l b (16 * n))) n first (j + 1) m'
  vector_on g h e = turns_on (vector_turns _ _) g h e (vector_inside l b n j h)

  pub instruction_on : Going (put_instructions a (bytes_at l b (8 * n))) n first j m → j < n → m' ≡ sets m (8 * ((a + j) % instructions Vif1)) (bytes_at l (b + 8 * j) 8)
      → Going (put_instructions a (bytes_at l b (8 * n))) n first (j + 1) m'
  instruction_on g h e = turns_on (instruction_turns _ _) g h e (instruction_inside l b n j h)

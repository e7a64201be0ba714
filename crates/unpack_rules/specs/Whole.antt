-- A payload as a whole: what its words make of ROW and memory, read off all of them at once, and the steps that take them one by one.
use Rattle.std.specs.Prelude.{ℕ, zero, suc, ◌+◌, ◌*◌, ◌%◌, Bool, true, false, ◌&&◌, List, [], ◌∷◌, length, nat_le, nat_lt, Option, Some, None, slice_index, slice_set}
use Rattle.fields.specs.Fields.{if}
use Rattle.fields.specs.Memory.{word_at}
use Rattle.unpack_rules.specs.declared.Format.{Format}
use Rattle.unpack_rules.specs.declared.Unpacking.{Unpacking}
use Rattle.unpack_rules.specs.declared.Registers.{Registers}
use Rattle.unpack_rules.specs.declared.WordsTaken.{WordsTaken}
use Rattle.unpack_rules.specs.Payload.{vector_bits, value}
use Rattle.unpack_rules.specs.Vector.{vector_at}
use Rattle.unpack_rules.specs.Write.{Written, written, writes_from}
use Rattle.unpack_rules.specs.Step.{holds, acting, done_after, unpack_word, acceptable}

-- vector i of a payload, "their bits rounded up to whole words": its bits lie one after another in the number of the words
unfoldable pub payload_vector : Format → Bool → List ℕ → ℕ → List ℕ
payload_vector f usn ws i = vector_at f usn (value ws) (i * vector_bits f)

-- "After k payload words, exactly the vectors lying wholly in them have been written", and the fills after them: the writes of the words ws, in order
unfoldable pub unpacked_by : ℕ → Format → Unpacking → Registers → List ℕ → Written → Written
unpacked_by size f u r ws w =
    writes_from size u.address (acting f u r) (payload_vector f u.usn ws) (done_after f r u (length ws)) 0 w

-- the steps of payload words, one after another
unfoldable pub take_words : ℕ → Format → Unpacking → Registers → List ℕ → Written → Written
take_words size f u r [] w = w
take_words size f u r (x ∷ ws) w = take_words size f (holds u x) r ws (unpack_word size f u r x w)

-- the UNPACK after them
unfoldable pub held_after : Unpacking → List ℕ → Unpacking
held_after u [] = u
held_after u (x ∷ ws) = held_after (holds u x) ws

-- ---- words of main memory, taken one after another

-- n words from an address on
unfoldable pub words_from : List ℕ → ℕ → ℕ → List ℕ
words_from main a zero = []
words_from main a (suc n) = word_at main a ∷ words_from main (a + 4) n

-- what a call leaves
pub record WordsLeft : Type 0 where
  pub accepted : Bool
  pub row : List ℕ
  pub mem : List ℕ
  pub rest : Unpacking

-- by the UNPACK and ROW before the call, what it returns where it accepts, and the memory after it
abbrev pub words_left : Unpacking → List ℕ → Option WordsTaken → List ℕ → WordsLeft
words_left u row None mem = record { accepted = false; row = row; mem = mem; rest = u }
words_left u row (Some s) mem = record { accepted = true; row = s.row; mem = mem; rest = s.rest }

-- the steps of the words
unfoldable pub taken_by : ℕ → Format → Unpacking → Registers → List ℕ → Written → WordsLeft
taken_by size f u r ws w =
    record { accepted = true; row = (take_words size f u r ws w).row; mem = (take_words size f u r ws w).mem; rest = held_after u ws }

-- The call tests its own input: what the step of a word tests, an address up to 1,048,576, and fewer words than are due; else nothing changes.
unfoldable pub words_acceptable : ℕ → Format → Unpacking → Registers → ℕ → ℕ → List ℕ → Bool
words_acceptable size f u r a n mem = nat_le a 1048576 && (nat_lt n u.due && acceptable size f u r mem)

unfoldable pub take_words_of : ℕ → Format → Unpacking → Registers → List ℕ → ℕ → ℕ → List ℕ → List ℕ → WordsLeft
take_words_of size f u r main a n row mem =
    if (words_acceptable size f u r a n mem) (taken_by size f u r (words_from main a n) (written row mem))
    (record { accepted = false; row = row; mem = mem; rest = u })

-- the memory with four words stored at a quadword
unfoldable pub store_quadword : List ℕ → ℕ → List ℕ → List ℕ
store_quadword mem q x =
    slice_set (slice_set (slice_set (slice_set mem (4 * q) (slice_index x 0)) (4 * q + 1) (slice_index x 1)) (4 * q + 2) (slice_index x 2)) (4 * q + 3) (slice_index x 3)

-- what an UNPACK with CL = WL = 1, no mask and no mode writes: n vectors from number j on, vector j to quadword (a + j) mod size
unfoldable pub copy_vectors : ℕ → ℕ → (ℕ → List ℕ) → ℕ → ℕ → List ℕ → List ℕ
copy_vectors size a vec zero j mem = mem
copy_vectors size a vec (suc n) j mem = copy_vectors size a vec n (suc j) (store_quadword mem ((a + j) % size) (vec j))

-- words 4j to 4j + 3 of a list: vector j of a V4-32 payload
unfoldable pub four_words : List ℕ → ℕ → List ℕ
four_words ws j = slice_index ws (4 * j) ∷ slice_index ws (4 * j + 1) ∷ slice_index ws (4 * j + 2) ∷ slice_index ws (4 * j + 3) ∷ []

-- One payload word of an UNPACK.
use Rattle.std.specs.Prelude.{ℕ, ◌+◌, ◌-◌, ◌*◌, ◌%◌, Bool, true, false, ◌&&◌, List, [], ◌∷◌, length, ◌==◌, nat_le, Option, Some, None}
use Rattle.fields.specs.Fields.{if}
use Rattle.unpack_rules.specs.declared.Format.{Format}
use Rattle.unpack_rules.specs.declared.Unpacking.{Unpacking}
use Rattle.unpack_rules.specs.declared.Registers.{Registers}
use Rattle.unpack_rules.specs.Payload.{is_five, vector_bits, value, whole_vectors}
use Rattle.unpack_rules.specs.Vector.{vector_at}
use Rattle.unpack_rules.specs.Position.{addresses, address_most, vectors_before, writes_done}
use Rattle.unpack_rules.specs.Mask.{mask_of}
use Rattle.unpack_rules.specs.Write.{Written, written, writes_from}
use Rattle.unpack_rules.specs.Range.{payload_for, cycle_in_range, unpacking_in_range}

-- "NUM 0 means 256 vectors"; NUM has eight bits. With request 3 it counts the writes.
unfoldable pub count_of : ℕ → ℕ
count_of num = if (num % 256 == 0) 256 (num % 256)

-- an UNPACK code whose whole payload is due under CL and WL, nothing of it taken
unfoldable pub unpacking_of : Format → ℕ → ℕ → ℕ → ℕ → Bool → Bool → Bool → Unpacking
unpacking_of f cl wl a num usn masked interrupt =
    record {
      address = a % addresses;
      count = count_of num;
      due = payload_for f cl wl (count_of num);
      usn = usn;
      masked = masked;
      interrupt = interrupt;
      first = 0;
      second = 0;
      third = 0;
    }

-- the payload words already taken
unfoldable pub taken_words : Format → Registers → Unpacking → ℕ
taken_words f r u = payload_for f r.cl r.wl u.count - u.due

-- an UNPACK that waits on, with one payload word more held
abbrev pub holds : Unpacking → ℕ → Unpacking
holds u word =
    record {
      address = u.address;
      count = u.count;
      due = u.due - 1;
      usn = u.usn;
      masked = u.masked;
      interrupt = u.interrupt;
      first = u.second;
      second = u.third;
      third = word;
    }

-- The registers as this UNPACK reads them: "With M clear all codes are 0"; "MODE doesn't act on vl 3."
unfoldable pub acting : Format → Unpacking → Registers → Registers
acting f u r =
    record {
      cl = r.cl;
      wl = r.wl;
      mode = if (is_five f) 0 r.mode;
      mask = mask_of u.masked r.mask;
      col = r.col;
    }

-- The vector i, from the last four payload words: the three held and the one that comes, which is word k. What the program holds is its own
-- choice; `WholeLaws` ties this to the bits of the whole payload (`payload-theorem`).
unfoldable pub held_vector : Format → Unpacking → ℕ → ℕ → ℕ → List ℕ
held_vector f u word k i =
    vector_at f u.usn (value (u.first ∷ u.second ∷ u.third ∷ word ∷ [])) (i * vector_bits f + 96 - 32 * k)

-- "After k payload words, exactly the vectors lying wholly in them have been written", and with them the fills after them: how many writes are done
unfoldable pub done_after : Format → Registers → Unpacking → ℕ → ℕ
done_after f r u k =
    writes_done r.cl r.wl (whole_vectors f (vectors_before r.cl r.wl u.count) k) u.count

-- word k makes those writes that are done with it and were not before it
unfoldable pub word_of : ℕ → Format → Unpacking → Registers → ℕ → ℕ → Written → Written
word_of size f u r word k w =
    writes_from size u.address (acting f u r) (held_vector f u word k) (done_after f r u (k + 1) - done_after f r u k) (done_after f r u k) w

-- request 3: "With CL 0 there is no payload and all writes belong to the code's own step."
unfoldable pub unfed_writes : ℕ → Format → Unpacking → Registers → Written → Written
unfed_writes size f u r w = writes_from size u.address (acting f u r) (λ j. []) u.count 0 w

-- the pure step: the next payload word is taken
unfoldable pub unpack_word : ℕ → Format → Unpacking → Registers → ℕ → Written → Written
unpack_word size f u r word w = word_of size f u r word (taken_words f r u) w

-- what a call leaves
pub record Left : Type 0 where
  pub accepted : Bool
  pub row : List ℕ
  pub mem : List ℕ

-- by ROW before the call, the new ROW that it returns where it accepts, and the memory after it
abbrev pub left : List ℕ → Option (List ℕ) → List ℕ → Left
left row None mem = record { accepted = false; row = row; mem = mem }
left row (Some new) mem = record { accepted = true; row = new; mem = mem }

-- The public step tests its own input: a memory of 4 x size words, size 1 to 1,024, and an UNPACK and CL, WL in range; else nothing changes.
unfoldable pub acceptable : ℕ → Format → Unpacking → Registers → List ℕ → Bool
acceptable size f u r mem =
    nat_le 1 size
    && (nat_le size addresses && (length mem == 4 * size && (cycle_in_range r.cl r.wl && unpacking_in_range f r.cl r.wl u)))

abbrev pub left_of : Written → Left
left_of w = record { accepted = true; row = w.row; mem = w.mem }

unfoldable pub take_of : ℕ → Format → Unpacking → Registers → ℕ → List ℕ → List ℕ → Left
take_of size f u r word row mem =
    if (acceptable size f u r mem) (left_of (unpack_word size f u r word (written row mem)))
    (record { accepted = false; row = row; mem = mem })

-- the public step of a code with CL 0 tests its own input too: the memory, the cycle, the address and the number of writes
unfoldable pub unfed_acceptable : ℕ → Unpacking → Registers → List ℕ → Bool
unfed_acceptable size u r mem =
    nat_le 1 size
    && (nat_le size addresses
    && (length mem == 4 * size && (cycle_in_range r.cl r.wl && (r.cl == 0 && (nat_le u.address address_most && nat_le u.count 256)))))

unfoldable pub unfed_of : ℕ → Format → Unpacking → Registers → List ℕ → List ℕ → Left
unfed_of size f u r row mem =
    if (unfed_acceptable size u r mem) (left_of (unfed_writes size f u r (written row mem)))
    (record { accepted = false; row = row; mem = mem })

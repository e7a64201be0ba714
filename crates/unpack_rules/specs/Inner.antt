-- Facts that inner functions require of their input; of the promises of public functions only that of `is_plain` cites one, `plain`.
use Rattle.std.specs.Prelude.{◌≡◌, ℕ, suc, ◌+◌, ◌-◌, ◌*◌, ◌%◌, ◌<◌, ◌≤◌, Bool, ◌&&◌, List, length, ◌==◌, slice_index}
use Rattle.unpack_rules.specs.declared.Format.{Format}
use Rattle.unpack_rules.specs.declared.Unpacking.{Unpacking}
use Rattle.unpack_rules.specs.declared.Registers.{Registers}
use Rattle.unpack_rules.specs.Payload.{element_bits, vector_bits, whole_vectors}
use Rattle.unpack_rules.specs.Position.{addresses, address_most, vectors_before, writes_done}
use Rattle.unpack_rules.specs.Range.{CycleFits, UnpackingFits}
use Rattle.unpack_rules.specs.Write.{Written, writes_from}
use Rattle.unpack_rules.specs.Step.{acting, held_vector}

-- the widths that elements have
pub data Width : ℕ → Type 0 where
  eight : Width 8
  sixteen : Width 16
  whole : Width 32

-- an element of a width at a bit of four words lies in one of them
pub record ElementFits (width at : ℕ) : Type 0 where
  pub width_known : Width width
  pub lane : at % 32 + width ≤ 32
  pub inside : at + width ≤ 128

-- a vector at a bit of four words lies in them, at a multiple of its elements' width
pub record VectorFits (f : Format) (at : ℕ) : Type 0 where
  pub multiple : at % element_bits f ≡ 0
  pub inside : at + vector_bits f ≤ 128

-- word k completes vector i
pub record VectorIn (f : Format) (k i : ℕ) : Type 0 where
  pub ends_after : 32 * k < (i + 1) * vector_bits f
  pub ends_inside : (i + 1) * vector_bits f ≤ 32 * (k + 1)

-- write i is of a vector that word k completes
pub record WriteIn (f : Format) (cl wl k i : ℕ) : Type 0 where
  pub vector : ℕ
  pub is : vectors_before cl wl (suc i) ≡ suc vector
  pub ends : VectorIn f k vector

-- a write stores its data as it is and leaves ROW: MODE is 0 and so is the code of each field
unfoldable pub plain : List ℕ → ℕ → Bool
plain codes mode =
    (mode == 0)
    && (slice_index codes 0 == 0 && (slice_index codes 1 == 0 && (slice_index codes 2 == 0 && slice_index codes 3 == 0)))

-- a memory of `size` quadwords
pub record MemoryFits (size : ℕ) (mem : List ℕ) : Type 0 where
  pub some : 1 ≤ size
  pub most : size ≤ addresses
  pub long : length mem ≡ 4 * size

-- what the writes of word k need; each is of a vector that the word completes
pub record WordFits (size : ℕ) (f : Format) (u : Unpacking) (r : Registers) (k from to : ℕ) (mem : List ℕ) : Type 0 where
  pub cycle : CycleFits r.cl r.wl
  pub memory : MemoryFits size mem
  pub inside : u.address ≤ address_most
  pub few : to ≤ 256
  pub words : k ≤ 1024
  pub each : (i : ℕ) → from ≤ i → i < to → WriteIn f r.cl r.wl k i

-- what word k's writes need, by the vectors that it completes
pub record CompletedFits (size : ℕ) (f : Format) (u : Unpacking) (r : Registers) (k from to : ℕ) (mem : List ℕ) : Type 0 where
  pub cycle : CycleFits r.cl r.wl
  pub memory : MemoryFits size mem
  pub unpacking : UnpackingFits f r.cl r.wl u
  pub words : k ≤ 1024
  pub first : from ≡ whole_vectors f (vectors_before r.cl r.wl u.count) k
  pub last : to ≡ whole_vectors f (vectors_before r.cl r.wl u.count) (k + 1)

-- those writes
unfoldable pub completed_writes : ℕ → Format → Unpacking → Registers → ℕ → ℕ → ℕ → ℕ → Written → Written
completed_writes size f u r word k from to w =
    writes_from size u.address (acting f u r) (held_vector f u word k) (done to - done from) (done from) w
  where
    done : ℕ → ℕ
    done v = writes_done r.cl r.wl v u.count

-- what the writes of an UNPACK with CL 0 need
pub record UnfedFits (size : ℕ) (u : Unpacking) (r : Registers) (mem : List ℕ) : Type 0 where
  pub cycle : CycleFits r.cl r.wl
  pub none : r.cl ≡ 0
  pub memory : MemoryFits size mem
  pub inside : u.address ≤ address_most
  pub few : u.count ≤ 256

-- Vectors read where they lie in main memory, for proofs. No promise of a public function cites them.
use Rattle.std.specs.Prelude.{ℕ, suc, ◌+◌, ◌*◌, ◌-◌, ◌/◌, ◌%◌, ◌<◌, ◌≤◌, ◌≡◌, Bool, false, List, [], ◌∷◌, length, get_or}
use Rattle.unpack_rules.specs.declared.Format.{Format}
use Rattle.unpack_rules.specs.declared.Unpacking.{Unpacking}
use Rattle.unpack_rules.specs.declared.Registers.{Registers}
use Rattle.unpack_rules.specs.Payload.{elements, is_five, vector_bits, value}
use Rattle.unpack_rules.specs.Vector.{vector_at}
use Rattle.unpack_rules.specs.Position.{address_most, vectors_before}
use Rattle.unpack_rules.specs.Write.{field_of}
use Rattle.unpack_rules.specs.Range.{CycleFits, UnpackingFits}
use Rattle.unpack_rules.specs.Step.{taken_words}
use Rattle.unpack_rules.specs.Whole.{words_from}
use Rattle.unpack_rules.specs.Inner.{MemoryFits}

-- S: a vector is one element, extended
pub record Scalar (f : Format) : Type 0 where
  pub single : elements f ≡ 1
  pub extends : is_five f ≡ false

unfoldable pub vector_bytes : Format → ℕ
vector_bytes f = vector_bits f / 8

-- the vector at an address
unfoldable pub vector_in : Format → Bool → List ℕ → ℕ → List ℕ
vector_in f usn main at = vector_at f usn (value (words_from main at 4)) 0

-- vector i, where vector v lies at address a and the others follow it
unfoldable pub vector_from : Format → Bool → List ℕ → ℕ → ℕ → ℕ → List ℕ
vector_from f usn main a v i = vector_in f usn main (a + vector_bytes f * (i - v))

-- four words of a list
unfoldable pub quad_of : List ℕ → ℕ → List ℕ
quad_of xs q = get_or xs (4 * q) 0 ∷ get_or xs (4 * q + 1) 0 ∷ get_or xs (4 * q + 2) 0 ∷ get_or xs (4 * q + 3) 0 ∷ []

-- the four fields that a write leaves, from the old ones
unfoldable pub fields_after : List ℕ → ℕ → List ℕ → List ℕ → ℕ → List ℕ → List ℕ
fields_after codes mode fields row col old = new 0 ∷ new 1 ∷ new 2 ∷ new 3 ∷ []
  where
    new : ℕ → ℕ
    new f = field_of (get_or codes f 0) mode (get_or fields f 0) (get_or row f 0) col (get_or old f 0)

-- the vector of write j among vectors read, of which that of write `first` is the first; a fill has that of the write before it
unfoldable pub vector_of : List ℕ → ℕ → ℕ → ℕ → ℕ → List ℕ
vector_of xs cl wl first j = quad_of xs (vectors_before cl wl (suc j) - suc (vectors_before cl wl first))

-- what the writes from `first` to below `last` need; the first of them is no fill
pub record WritesFit (size address cl wl first last : ℕ) (mem : List ℕ) : Type 0 where
  pub cycle : CycleFits cl wl
  pub memory : MemoryFits size mem
  pub inside : address ≤ address_most
  pub some : first ≤ last
  pub small : first ≤ 255
  pub few : last ≤ 256
  pub begins : vectors_before cl wl (suc first) ≡ suc (vectors_before cl wl first)

-- n vectors from address a on, those of these writes, lie inside main memory
pub record ReadsFit (f : Format) (cl wl first last n a : ℕ) (main : List ℕ) : Type 0 where
  pub taken : vectors_before cl wl last - vectors_before cl wl first ≤ n
  pub most : n ≤ 256
  pub lies : a + vector_bytes f * n + 4 ≤ length main

-- what n words need with the first of which a vector begins; a word more lies inside main memory
pub record VectorsFit (size : ℕ) (f : Format) (u : Unpacking) (r : Registers) (a n : ℕ) (main mem : List ℕ) : Type 0 where
  pub cycle : CycleFits r.cl r.wl
  pub memory : MemoryFits size mem
  pub unpacking : UnpackingFits f r.cl r.wl u
  pub fewer : n < u.due
  pub begins : taken_words f r u % elements f ≡ 0
  pub lies : a + 4 * n + 4 ≤ length main

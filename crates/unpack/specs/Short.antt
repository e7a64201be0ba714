-- The short way of V4-32 with M clear and MODE 0 (request 4), for proofs: words stored as they came. No promise of a public function cites it; what an UNPACK
-- means is said by `Step` and `Whole`, for every format alike.
use Rattle.std.specs.Prelude.{ℕ, zero, suc, ◌+◌, ◌*◌, ◌-◌, ◌%◌, ◌<◌, ◌≤◌, ◌≡◌, Bool, true, false, not, ◌&&◌, List, [], ◌∷◌, length, set, eqb}
use Rattle.fields.specs.Memory.{word_at}
use Rattle.unpack_rules.specs.declared.Format.{Format}
use Rattle.unpack_rules.specs.declared.Format.TheVariants.{S32, S16, S8, V2x32, V2x16, V2x8, V3x32, V3x16, V3x8, V4x32, V4x16, V4x8, V4x5}
use Rattle.unpack_rules.specs.declared.Unpacking.{Unpacking}
use Rattle.unpack_rules.specs.declared.Registers.{Registers}
use Rattle.unpack_rules.specs.Position.{address_most, vectors_before}
use Rattle.unpack_rules.specs.Range.{CycleFits, UnpackingFits}
use Rattle.unpack_rules.specs.Write.{written}
use Rattle.unpack_rules.specs.Step.{unpack_word}
use Rattle.unpack_rules.specs.Inner.{MemoryFits}
use Rattle.unpack_rules.specs.Whole.{take_words, taken_by, store_quadword}

-- the format whose vectors are four whole words
abbrev pub is_whole : Format → Bool
is_whole S32 = false
is_whole S16 = false
is_whole S8 = false
is_whole V2x32 = false
is_whole V2x16 = false
is_whole V2x8 = false
is_whole V3x32 = false
is_whole V3x16 = false
is_whole V3x8 = false
is_whole V4x32 = true
is_whole V4x16 = false
is_whole V4x8 = false
is_whole V4x5 = false

-- "let that one format, exactly with M clear and MODE 0, take a short way": M set with a mask of zeros is not it
unfoldable pub goes_short : Format → Unpacking → Registers → Bool
goes_short f u r = not u.masked && (eqb r.mode 0 && is_whole f)

-- the four words at an address
unfoldable pub quad_from : List ℕ → ℕ → List ℕ
quad_from main a = word_at main a ∷ word_at main (a + 4) ∷ word_at main (a + 8) ∷ word_at main (a + 12) ∷ []

-- a copied run: n writes from number i on, each stores its four words as they are at its place
unfoldable pub stores_from : (ℕ → ℕ) → (ℕ → List ℕ) → ℕ → ℕ → List ℕ → List ℕ
stores_from place words zero i mem = mem
stores_from place words (suc n) i mem = stores_from place words n (suc i) (store_quadword mem (place i) (words i))

-- the words of write i, where the vector of write `first` lies at address a and the others follow it; a fill has those of the write before it
unfoldable pub words_of_write : List ℕ → ℕ → ℕ → ℕ → ℕ → ℕ → List ℕ
words_of_write main a cl wl first i = quad_from main (a + 16 * vectors_before cl wl (suc i) - 16 * suc (vectors_before cl wl first))

-- n words from an address on, stored one after another
unfoldable pub copy_words : List ℕ → ℕ → ℕ → ℕ → List ℕ → List ℕ
copy_words main zero a to mem = mem
copy_words main (suc n) a to mem = copy_words main n (a + 4) (to + 1) (set mem to (word_at main a))

-- what a word of the short way needs
pub record ShortFits (size : ℕ) (u : Unpacking) (r : Registers) (mem : List ℕ) : Type 0 where
  pub cycle : CycleFits r.cl r.wl
  pub memory : MemoryFits size mem
  pub unpacking : UnpackingFits V4x32 r.cl r.wl u
  pub clear : u.masked ≡ false
  pub plain : r.mode ≡ 0

-- the UNPACK once a vector that it has begun is ended
pub record Ended (u ended : Unpacking) : Type 0 where
  pub address : ended.address ≡ u.address
  pub count : ended.count ≡ u.count
  pub masked : ended.masked ≡ u.masked
  pub due : ended.due + u.due % 4 ≡ u.due

-- what the writes from `first` to below `last` need, whose vectors lie inside main memory from address a on; the first of them is no fill
pub record CopyFits (size address cl wl first last a : ℕ) (main mem : List ℕ) : Type 0 where
  pub cycle : CycleFits cl wl
  pub memory : MemoryFits size mem
  pub inside : address ≤ address_most
  pub some : first < last
  pub few : last ≤ 256
  pub begins : vectors_before cl wl (suc first) ≡ suc (vectors_before cl wl first)
  pub lies : a + 16 * (vectors_before cl wl last - vectors_before cl wl first) ≤ length main
  pub near : a < 4294967296

-- how far the next write lies from one that is at a place of its cycle
pub record Stride (cl wl cycle d : ℕ) : Type 0 where
  pub few : d ≤ 255
  pub fills : cl < wl → d ≡ 1
  pub turns : wl ≤ cl → cycle + 1 ≡ wl → d ≡ 1 + (cl - wl)
  pub on : cycle + 1 < wl → d ≡ 1

-- the general way's step of a word leaves ROW and this memory
pub record ShortWord (size : ℕ) (u : Unpacking) (r : Registers) (word : ℕ) (mem m : List ℕ) : Type 0 where
  pub leaves : (row : List ℕ) → length row ≡ 4 → unpack_word size V4x32 u r word (written row mem) ≡ written row m

-- the general way's steps of words leave ROW and this memory
pub record ShortCopy (size : ℕ) (u : Unpacking) (r : Registers) (ws mem m : List ℕ) : Type 0 where
  pub leaves : (row : List ℕ) → length row ≡ 4 → take_words size V4x32 u r ws (written row mem) ≡ written row m

-- the general way's steps of words leave ROW, this memory and this UNPACK
pub record ShortWords (size : ℕ) (u : Unpacking) (r : Registers) (ws mem : List ℕ) (rest : Unpacking) (m : List ℕ) : Type 0 where
  pub leaves :
      (row : List ℕ) → length row ≡ 4
      → taken_by size V4x32 u r ws (written row mem) ≡ record { accepted = true; row = row; mem = m; rest = rest }

-- an UNPACK k words further, the last three of them held
abbrev pub skipped : Unpacking → ℕ → ℕ → ℕ → ℕ → Unpacking
skipped u k x y z =
    record {
      address = u.address;
      count = u.count;
      due = u.due - k;
      usn = u.usn;
      masked = u.masked;
      interrupt = u.interrupt;
      first = x;
      second = y;
      third = z;
    }

-- What VIF1 makes of words, and what a sheet means by their bytes.
use mathlib.Core.Path.{◌≡◌, refl, sym, ap, ◌∙◌}
use mathlib.Core.List.{List, [], ◌∷◌, ◌++◌}
use Prim.Native.Nat.{ℕ, zero, suc, ◌+◌, ◌*◌, ◌%◌, ◌^◌, ◌<◌, ◌≤◌}
use native.Mathlib.Omega.{arith}
use lib.ListN.{length, get_or, take, drop, length-drop}
use lib.Seq.{sets, take-add, drop-drop}
use Rattle.fields.specs.Fields.{bits, quadword}
use Rattle.fields.proofs.FieldLaws.{whole_low, bits_middle}
use Rattle.gif.specs.declared.GifPath.TheVariants.{Two}
use Rattle.gif.specs.Log.{numbers, entries_by}
use Rattle.gif.specs.Run.{address_datas}
use Rattle.unpack_rules.specs.Whole.{store_quadword, copy_vectors, four_words}
use Rattle.memories.specs.declared.VifUnit.TheVariants.{Vif1}
use Rattle.memories.specs.Units.{quadwords, instructions}
use Rattle.vif.specs.Feeds.{store_instruction, copy_instructions}
use Rattle.sheet.specs.Records.{bytes_at, number}
use Rattle.sheet.specs.Layout.{word_bytes}
use Rattle.sheet.specs.Meaning.{vector_of, put_vectors, put_instructions, entries_at}
use Rattle.conformance.proofs.WordLaws.{Octets, no_byte, one_byte, words_of, words_at_lem, four_back, both}

-- ---- data

store_four : (mem : List ℕ) (q x y z w : ℕ) → store_quadword mem q (x ∷ y ∷ z ∷ w ∷ []) ≡ sets mem (4 * q) (x ∷ y ∷ z ∷ w ∷ [])
unfolding store_quadword
store_four mem q x y z w =
    let a : 4 * q + 1 ≡ suc (4 * q) = omega arith in
    let b : 4 * q + 2 ≡ suc (suc (4 * q)) = omega arith in
    let c : 4 * q + 3 ≡ suc (suc (suc (4 * q))) = omega arith in
    rw (a, b, c)

-- vector j of the words is vector j of the bytes
vector_same : (n : ℕ) (body : List ℕ) (j : ℕ) → j < n → four_words (words_of (4 * n) body) j ≡ vector_of body j
unfolding four_words
vector_same n body j h =
    let a : 4 * (4 * j) ≡ 16 * j = omega arith in
    let b : 4 * (4 * j + 1) ≡ 16 * j + 4 = omega arith in
    let c : 4 * (4 * j + 2) ≡ 16 * j + 8 = omega arith in
    let d : 4 * (4 * j + 3) ≡ 16 * j + 12 = omega arith in
    let at = words_at_lem (4 * n) body in
    rw (at (4 * j) (omega arith), at (4 * j + 1) (omega arith), at (4 * j + 2) (omega arith), at (4 * j + 3) (omega arith), a, b, c, d)

pub vectors_same : (n a : ℕ) (body : List ℕ) (r j : ℕ) (mem : List ℕ) → j + r ≡ n
    → copy_vectors (quadwords Vif1) a (four_words (words_of (4 * n) body)) r j mem ≡ put_vectors a body r j mem
unfolding copy_vectors put_vectors
vectors_same n a body zero j mem e = refl
vectors_same n a body (suc r) j mem e =
    rw (vector_same n body j (omega arith), store_four mem ((a + j) % quadwords Vif1) _ _ _ _) (vectors_same n a body r (suc j) _ (omega arith))

-- ---- code

-- bytes of a part are bytes
pub bytes_drop : (i : ℕ) {bs : List ℕ} → Octets bs → Octets (drop i bs)
bytes_drop zero b = b
bytes_drop (suc i) no_byte = no_byte
bytes_drop (suc i) (one_byte p b) = bytes_drop i b

pub bytes_take : (i : ℕ) {bs : List ℕ} → Octets bs → Octets (take i bs)
bytes_take zero b = no_byte
bytes_take (suc i) no_byte = no_byte
bytes_take (suc i) (one_byte p b) = one_byte p (bytes_take i b)

four_taken : {bs : List ℕ} → Octets bs → 4 ≤ length bs → word_bytes (number (take 4 bs)) ≡ take 4 bs
four_taken no_byte h = absurd (omega arith)
four_taken (one_byte p no_byte) h = absurd (omega arith)
four_taken (one_byte p (one_byte q no_byte)) h = absurd (omega arith)
four_taken (one_byte p (one_byte q (one_byte r no_byte))) h = absurd (omega arith)
four_taken (one_byte p (one_byte q (one_byte r (one_byte s t)))) h = four_back _ _ _ _ p q r s

-- two words of four bytes are eight bytes
eight_taken : {bs : List ℕ} → Octets bs → (i : ℕ) → i + 8 ≤ length bs
    → word_bytes (number (bytes_at bs i 4)) ++ word_bytes (number (bytes_at bs (i + 4) 4)) ≡ bytes_at bs i 8
eight_taken {bs} b i h =
    let l = length-drop i bs in
    let k = length-drop (i + 4) bs in
    both (four_taken (bytes_drop i b) (omega arith)) (four_taken (bytes_drop (i + 4) b) (omega arith) ∙ ap (take 4) (sym (drop-drop 4 i bs)))
    ∙ sym (take-add 4 4 (drop i bs))

-- instruction j of the words is instruction j of the bytes
instruction_same : (n : ℕ) {body : List ℕ} → Octets body → length body ≡ 8 * n → (j : ℕ) → j < n → (code : List ℕ) (q : ℕ)
    → store_instruction code q (get_or (words_of (2 * n) body) (2 * j) 0) (get_or (words_of (2 * n) body) (2 * j + 1) 0) ≡ sets code (8 * q) (bytes_at body (8 * j) 8)
unfolding store_instruction
instruction_same n {body} b l j h code q =
    let a : 4 * (2 * j) ≡ 8 * j = omega arith in
    let c : 4 * (2 * j + 1) ≡ 8 * j + 4 = omega arith in
    let x : get_or (words_of (2 * n) body) (2 * j) 0 ≡ number (bytes_at body (8 * j) 4) = words_at_lem (2 * n) body (2 * j) (omega arith) ∙ rw a in
    let y : get_or (words_of (2 * n) body) (2 * j + 1) 0 ≡ number (bytes_at body (8 * j + 4) 4) = words_at_lem (2 * n) body (2 * j + 1) (omega arith) ∙ rw c in
    let e : word_bytes (get_or (words_of (2 * n) body) (2 * j) 0) ++ word_bytes (get_or (words_of (2 * n) body) (2 * j + 1) 0) ≡ bytes_at body (8 * j) 8 = rw (x, y) (eight_taken b (8 * j) (omega arith)) in
    ap (sets code (8 * q)) e

pub instructions_same : (n a : ℕ) {body : List ℕ} → Octets body → length body ≡ 8 * n → (r j : ℕ) (code : List ℕ) → j + r ≡ n
    → copy_instructions (instructions Vif1) a (words_of (2 * n) body) r j code ≡ put_instructions a body r j code
unfolding copy_instructions put_instructions
instructions_same n a b l zero j code e = refl
instructions_same n a b l (suc r) j code e =
    rw (instruction_same n b l j (omega arith) code ((a + j) % instructions Vif1)) (instructions_same n a b l r (suc j) _ (omega arith))

-- ---- entries

-- the number of bytes in two parts, the first of four
pub number_join : (xs ys : List ℕ) → length xs ≡ 4 → number (xs ++ ys) ≡ number xs + number ys * 2 ^ 32
number_join [] ys l = absurd (omega arith)
number_join (a ∷ []) ys l = absurd (omega arith)
number_join (a ∷ b ∷ []) ys l = absurd (omega arith)
number_join (a ∷ b ∷ c ∷ []) ys l = absurd (omega arith)
number_join (a ∷ b ∷ c ∷ d ∷ []) ys l = omega arith
number_join (a ∷ b ∷ c ∷ d ∷ e ∷ xs) ys l = absurd (omega arith)

-- a quadword of a body: its low and high eight bytes
abbrev pub body_quadword : List ℕ → ℕ → ℕ
body_quadword body j = quadword (number (bytes_at body (16 * j) 8)) (number (bytes_at body (16 * j + 8) 8))

unfoldable pub body_quadwords : List ℕ → ℕ → ℕ → List ℕ
body_quadwords body zero j = []
body_quadwords body (suc n) j = body_quadword body j ∷ body_quadwords body n (suc j)

pub quadwords_length : (body : List ℕ) (n j : ℕ) → length (body_quadwords body n j) ≡ n
unfolding body_quadwords
quadwords_length body zero j = refl
quadwords_length body (suc n) j = ap suc (quadwords_length body n (suc j))

-- k bytes are below 256 ^ k
abbrev limit : ℕ → ℕ
limit zero = 1
limit (suc k) = 256 * limit k

limit_some : (k : ℕ) → 0 < limit k
limit_some zero = omega arith
limit_some (suc k) = let e = limit_some k in omega arith

bytes_small : (k : ℕ) {bs : List ℕ} → Octets bs → number (take k bs) < limit k
bytes_small zero b = omega arith
bytes_small (suc k) no_byte = let e = limit_some k in omega arith
bytes_small (suc k) (one_byte p b) = let e = bytes_small k b in omega arith

-- the lowest byte of eight
first_byte : {bs : List ℕ} → Octets bs → number (take 8 bs) % 256 ≡ number (take 1 bs)
first_byte no_byte = refl
first_byte (one_byte p b) = omega arith

-- the entry of a quadword that GIF's A+D writes is the entry that the sheet means
module _ {body : List ℕ} (b : Octets body) (j : ℕ) where
  value_same : bits (body_quadword body j) 0 63 ≡ number (bytes_at body (16 * j) 8)
  value_same = whole_low (number (bytes_at body (16 * j) 8)) (number (bytes_at body (16 * j + 8) 8)) (bytes_small 8 (bytes_drop (16 * j) b))

  register_same : bits (body_quadword body j) 64 71 ≡ number (bytes_at body (16 * j + 8) 1)
  register_same =
      bits_middle (number (bytes_at body (16 * j) 8)) (number (bytes_at body (16 * j + 8) 8)) (bytes_small 8 (bytes_drop (16 * j) b)) 71
      ∙ first_byte (bytes_drop (16 * j + 8) b)

pub entries_same : {body : List ℕ} → Octets body → (n j : ℕ) → numbers (entries_by Two (address_datas (body_quadwords body n j))) ≡ numbers (entries_at body n j)
unfolding body_quadwords entries_at
entries_same b zero j = refl
entries_same b (suc n) j = rw (value_same b j, register_same b j, entries_same b n (suc j))

-- Words as bytes and back, and words that lie in main memory.
use mathlib.Core.Path.{◌≡◌, refl, sym, ap, ◌∙◌}
use mathlib.Core.List.{List, [], ◌∷◌, ◌++◌}
use Prim.Native.Nat.{ℕ, zero, suc, ◌+◌, ◌*◌, ◌/◌, ◌%◌, ◌^◌, ◌<◌, ◌≤◌}
use native.Mathlib.Nat.{add-zero, zero-add, suc-add, div-div-eq-div-mul}
use native.Mathlib.Omega.{arith}
use lib.ListN.{length, get_or, take, drop, length-append, length-drop}
use lib.Seq.{get_or-drop, drop-drop, drop_at, take-append-le, drop-append-le}
use Rattle.unpack_rules.proofs.VectorLaws.{Words, none, more}
use Rattle.fields.specs.Memory.{word_at}
use Rattle.sheet.specs.Records.{bytes_at, number}
use Rattle.sheet.specs.Layout.{word_bytes, words_bytes}
use Rattle.sheet.specs.Whole.{Bytes}
use Rattle.sheet.proofs.LayoutLaws.{words_length as bytes-length}

-- ---- bytes, one after another

pub data Octets : List ℕ → Type 0 where
  no_byte : Octets []
  one_byte : {b : ℕ} {bs : List ℕ} → b < 256 → Octets bs → Octets (b ∷ bs)

pub octets : (xs : List ℕ) → Bytes xs → Octets xs
octets [] b = no_byte
octets (x ∷ xs) b = one_byte (b.below 0) (octets xs (record { below = λ i. b.below (suc i) }))

pub octets_left : (xs ys : List ℕ) → Octets (xs ++ ys) → Octets xs
octets_left [] ys b = no_byte
octets_left (x ∷ xs) ys (one_byte p b) = one_byte p (octets_left xs ys b)

pub octets_right : (xs ys : List ℕ) → Octets (xs ++ ys) → Octets ys
octets_right [] ys b = b
octets_right (x ∷ xs) ys (one_byte p b) = octets_right xs ys b

-- ---- words as bytes

-- the words of 4k bytes
unfoldable pub words_of : ℕ → List ℕ → List ℕ
words_of zero bs = []
words_of (suc k) bs = number (take 4 bs) ∷ words_of k (drop 4 bs)

-- a number by its lowest byte
low_byte : (a y : ℕ) → a < 256 → (a + 256 * y) % 256 ≡ a
low_byte a y h = omega arith

high_bytes : (a y : ℕ) → a < 256 → (a + 256 * y) / 256 ≡ y
high_bytes a y h = omega arith

-- four bytes are the bytes of their word
pub four_back : (a b c d : ℕ) → a < 256 → b < 256 → c < 256 → d < 256 → word_bytes (number (a ∷ b ∷ c ∷ d ∷ [])) ≡ a ∷ b ∷ c ∷ d ∷ []
four_back a b c d p q r s =
    let z = d + 256 * 0 in
    let y = c + 256 * z in
    let x = b + 256 * y in
    let n = a + 256 * x in
    let f : n / 65536 ≡ y = sym (div-div-eq-div-mul n 256 256) ∙ rw (high_bytes a x p, high_bytes b y q) in
    let g : n / 16777216 ≡ z = sym (div-div-eq-div-mul n 65536 256) ∙ rw (f, high_bytes c z r) in
    let h : z ≡ d = omega arith in
    rw (low_byte a x p, high_bytes a x p, low_byte b y q, f, low_byte c z r, g, h)

four_small : (a b c d : ℕ) → a < 256 → b < 256 → c < 256 → d < 256 → number (a ∷ b ∷ c ∷ d ∷ []) < 2 ^ 32
four_small a b c d p q r s = omega arith

-- two parts, each the same
pub both : {xs xs' ys ys' : List ℕ} → xs ≡ xs' → ys ≡ ys' → xs ++ ys ≡ xs' ++ ys'
both p q = rw (p, q)

pub words_back : (k : ℕ) {bs : List ℕ} → Octets bs → length bs ≡ 4 * k → words_bytes (words_of k bs) ≡ bs
unfolding words_of
words_back zero no_byte e = refl
words_back zero (one_byte p b) e = absurd (omega arith)
words_back (suc k) no_byte e = absurd (omega arith)
words_back (suc k) (one_byte p no_byte) e = absurd (omega arith)
words_back (suc k) (one_byte p (one_byte q no_byte)) e = absurd (omega arith)
words_back (suc k) (one_byte p (one_byte q (one_byte r no_byte))) e = absurd (omega arith)
words_back (suc k) (one_byte p (one_byte q (one_byte r (one_byte s t)))) e =
    both (four_back _ _ _ _ p q r s) (words_back k t (omega arith))

pub words_small : (k : ℕ) {bs : List ℕ} → Octets bs → length bs ≡ 4 * k → Words (words_of k bs)
unfolding words_of
words_small zero b e = none
words_small (suc k) no_byte e = absurd (omega arith)
words_small (suc k) (one_byte p no_byte) e = absurd (omega arith)
words_small (suc k) (one_byte p (one_byte q no_byte)) e = absurd (omega arith)
words_small (suc k) (one_byte p (one_byte q (one_byte r no_byte))) e = absurd (omega arith)
words_small (suc k) (one_byte p (one_byte q (one_byte r (one_byte s t)))) e =
    more (four_small _ _ _ _ p q r s) (words_small k t (omega arith))

pub words_length : (k : ℕ) (bs : List ℕ) → length (words_of k bs) ≡ k
unfolding words_of
words_length zero bs = refl
words_length (suc k) bs = ap suc (words_length k (drop 4 bs))

-- word i of them is the number of bytes 4i to 4i + 3
pub words_at_lem : (k : ℕ) (bs : List ℕ) (i : ℕ) → i < k → get_or (words_of k bs) i 0 ≡ number (bytes_at bs (4 * i) 4)
unfolding words_of
words_at_lem zero bs i h = absurd (omega arith)
words_at_lem (suc k) bs zero h = refl
words_at_lem (suc k) bs (suc i) h =
    let e : 4 * suc i ≡ 4 + 4 * i = omega arith in
    words_at_lem k (drop 4 bs) i (omega arith) ∙ rw (e, ← drop-drop (4 * i) 4 bs)

-- ---- words in main memory

-- words one after another from an address on
unfoldable pub words_from : List ℕ → ℕ → ℕ → List ℕ
words_from main a zero = []
words_from main a (suc k) = word_at main a ∷ words_from main (a + 4) k

module _ (main : List ℕ) where
  pub words_join : (j k a : ℕ) → words_from main a (j + k) ≡ words_from main a j ++ words_from main (a + 4 * j) k
  unfolding words_from
  words_join zero k a = rw (zero-add k, add-zero a)
  words_join (suc j) k a =
      let e : a + 4 * suc j ≡ a + 4 + 4 * j = omega arith in
      rw (suc-add j k, e, words_join j k (a + 4))

  -- what follows a part that lies at an address
  pub placed_next : (a n : ℕ) (xs ys : List ℕ) → length xs ≡ n → drop a main ≡ xs ++ ys → drop (a + n) main ≡ ys
  placed_next a n xs ys l e = sym (drop-drop n a main) ∙ rw e (drop_at xs ys n l)

  byte_at : (a : ℕ) {xs : List ℕ} → drop a main ≡ xs → (i : ℕ) → get_or main (a + i) 0 ≡ get_or xs i 0
  byte_at a e i = sym (get_or-drop a main i 0) ∙ rw e

  -- a word is the number of its four bytes
  pub word_number : (a : ℕ) (xs : List ℕ) → drop a main ≡ xs → 4 ≤ length xs → word_at main a ≡ number (take 4 xs)
  unfolding word_at
  word_number a [] e h = absurd (omega arith)
  word_number a (p ∷ []) e h = absurd (omega arith)
  word_number a (p ∷ q ∷ []) e h = absurd (omega arith)
  word_number a (p ∷ q ∷ r ∷ []) e h = absurd (omega arith)
  word_number a (p ∷ q ∷ r ∷ s ∷ xs) e h =
      let f : get_or main a 0 ≡ p = rw add-zero at (byte_at a e 0) in
      rw (f, byte_at a e 1, byte_at a e 2, byte_at a e 3) (omega arith)

  -- the words of bytes that lie at an address
  pub words_read : (k a : ℕ) (xs ys : List ℕ) → length xs ≡ 4 * k → drop a main ≡ xs ++ ys → words_from main a k ≡ words_of k xs
  unfolding words_from words_of
  words_read zero a xs ys l e = refl
  words_read (suc k) a xs ys l e =
      let f = length-append xs ys in
      let g : take 4 (xs ++ ys) ≡ take 4 xs = take-append-le 4 xs ys (omega arith) in
      let d : drop (a + 4) main ≡ drop 4 xs ++ ys = sym (drop-drop 4 a main) ∙ rw e (drop-append-le 4 xs ys (omega arith)) in
      let n = length-drop 4 xs in
      rw (word_number a (xs ++ ys) e (omega arith), g, words_read k (a + 4) (drop 4 xs) ys (omega arith) d)

-- the bytes of words give the words back
word_digits : (w : ℕ) → w < 2 ^ 32 → number (word_bytes w) ≡ w
word_digits w h = omega arith

pub words_same : {ws : List ℕ} → Words ws → words_of (length ws) (words_bytes ws) ≡ ws
unfolding words_of
words_same none = refl
words_same (more {w} p r) = rw (word_digits w p, words_same r)

-- words whose bytes lie at an address
pub words_placed : (main : List ℕ) (a : ℕ) (ws xs : List ℕ) → Words ws → drop a main ≡ words_bytes ws ++ xs → words_from main a (length ws) ≡ ws
words_placed main a ws xs r e = words_read main (length ws) a (words_bytes ws) xs (bytes-length ws) e ∙ words_same r

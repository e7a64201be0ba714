-- The short way of V4-32 leaves what the general way leaves: `word-short` for a word, `vectors-short` for whole vectors, `copy-join` for a burst that begins inside a vector.
use mathlib.Core.Path.{◌≡◌, refl, sym, ap, ◌∙◌}
use mathlib.Core.Bool.{Bool, true, false, not}
use mathlib.Core.List.{List, [], ◌∷◌, ◌++◌}
use Prim.Native.Nat.{ℕ, zero, suc, ◌+◌, ◌*◌, ◌-◌, ◌/◌, ◌%◌, ◌^◌, ◌<◌, ◌≤◌}
use native.Mathlib.Nat.{add-zero}
use native.Mathlib.Numerals.{add-one}
use native.Mathlib.Omega.{arith}
use borrow.Author.Tests.{eqb-true, not-true}
use lib.ListN.{length, get_or}
use lib.Dec.{eqb}
use Rattle.fields.specs.Fields.{if}
use Rattle.fields.specs.Memory.{word_at}
use Rattle.fields.proofs.ChoiceLaws.{and_left, and_right, if_ind}
use Rattle.unpack_rules.specs.declared.Format.{Format}
use Rattle.unpack_rules.specs.declared.Format.TheVariants.{S32, S16, S8, V2x32, V2x16, V2x8, V3x32, V3x16, V3x8, V4x32, V4x16, V4x8, V4x5}
use Rattle.unpack_rules.specs.declared.Unpacking.{Unpacking}
use Rattle.unpack_rules.specs.declared.Registers.{Registers}
use Rattle.unpack_rules.specs.Payload.{vector_bits, value, whole_vectors}
use Rattle.unpack_rules.specs.Vector.{vector_at}
use Rattle.unpack_rules.specs.Position.{fills, vectors_before, writes_done, position_of}
use Rattle.unpack_rules.specs.Mask.{mask_of, code_row}
use Rattle.unpack_rules.specs.Range.{payload_for, CycleFits, UnpackingFits}
use Rattle.unpack_rules.specs.Write.{Written, written, write_vector, registers_at, last_vector, write_at, writes_from}
use Rattle.unpack_rules.specs.Step.{taken_words, holds, acting, held_vector, done_after, word_of, unpack_word}
use Rattle.unpack_rules.specs.Inner.{MemoryFits, VectorIn, WriteIn}
use Rattle.unpack_rules.specs.Whole.{payload_vector, four_words, store_quadword, take_words, held_after, words_from, taken_by, WordsLeft}
use Rattle.unpack.specs.Short.{is_whole, goes_short, quad_from, stores_from, words_of_write, ShortFits, Ended, CopyFits, ShortWord, ShortCopy, ShortWords, skipped}
use Rattle.unpack_rules.proofs.VectorLaws.{Words, four_words_lem}
use Rattle.unpack_rules.proofs.CycleLaws.{done_below, done_vectors, done_more, vectors_few, vectors_some, done_few, done_mono}
use Rattle.unpack_rules.proofs.WriteLaws.{plain_rows, plain_quadword}
use Rattle.unpack_rules.proofs.StepLaws.{word_taken, none_completed, write_in, due_cycle}
use Rattle.unpack_rules.proofs.WordsLaws.{unpacking_on}
use Rattle.unpack_rules.proofs.WholeLaws.{same_writes, writes_to, take_join, plain_codes, v4_vector, v4_words}
use Rattle.unpack.proofs.CopyLaws.{same_stores}

-- ---- which UNPACKs go the short way

pub differs : false ≡ true → ⊥
differs e = let z : ◌≡◌ {A = ℕ} 0 1 = cc in omega arith

is_whole_lem : (f : Format) → is_whole f ≡ true → f ≡ V4x32
is_whole_lem S32 e = absurd (differs e)
is_whole_lem S16 e = absurd (differs e)
is_whole_lem S8 e = absurd (differs e)
is_whole_lem V2x32 e = absurd (differs e)
is_whole_lem V2x16 e = absurd (differs e)
is_whole_lem V2x8 e = absurd (differs e)
is_whole_lem V3x32 e = absurd (differs e)
is_whole_lem V3x16 e = absurd (differs e)
is_whole_lem V3x8 e = absurd (differs e)
is_whole_lem V4x32 e = refl
is_whole_lem V4x16 e = absurd (differs e)
is_whole_lem V4x8 e = absurd (differs e)
is_whole_lem V4x5 e = absurd (differs e)

pub record Short (f : Format) (u : Unpacking) (r : Registers) : Type 0 where
  pub whole : f ≡ V4x32
  pub clear : u.masked ≡ false
  pub plain : r.mode ≡ 0

pub goes_short_lem : (f : Format) (u : Unpacking) (r : Registers) → goes_short f u r ≡ true → Short f u r
unfolding goes_short
goes_short_lem f u r h =
    let h1 = and_right (not u.masked) _ h in
    record {
      whole = is_whole_lem f (and_right (eqb r.mode 0) _ h1);
      clear = not-true _ (and_left _ _ h);
      plain = eqb-true r.mode 0 (and_left _ _ h1);
    }

pub short_fits : {size : ℕ} {f : Format} {u : Unpacking} {r : Registers} {mem : List ℕ} → Short f u r → CycleFits r.cl r.wl
    → UnpackingFits f r.cl r.wl u → MemoryFits size mem → ShortFits size u r mem
short_fits s c x m = record { cycle = c; memory = m; unpacking = rw s.whole at x; clear = s.clear; plain = s.plain }

-- ---- writes without codes and mode store their vectors

module _ (size a : ℕ) (r : Registers) (hm : r.mode ≡ 0) (hk : r.mask ≡ 0) where
  still : (i : ℕ) → if (fills r.cl r.wl i) 0 r.mode ≡ 0
  still i = rw hm (if_ind (λ (x : ℕ). x ≡ 0) (fills r.cl r.wl i) refl refl)

  placed : (vec : ℕ → List ℕ) (i : ℕ) (w : Written) → length w.row ≡ 4
      → write_at size a r vec i w
      ≡ written w.row (store_quadword w.mem (position_of size a r.cl r.wl i) (last_vector vec (vectors_before r.cl r.wl (suc i))))
  unfolding write_at write_vector registers_at
  placed vec i w h =
      rw (still i, hk, plain_rows (code_row 0 _) _ w.row h, plain_quadword w.mem _ w.row (code_row 0 _) _ _ 0 (plain_codes _))

  pub stored_writes : (vec : ℕ → List ℕ) (n i : ℕ) (w : Written) → length w.row ≡ 4
      → writes_from size a r vec n i w
      ≡ written w.row
      (stores_from (position_of size a r.cl r.wl) (λ (j : ℕ). last_vector vec (vectors_before r.cl r.wl (suc j))) n i w.mem)
  unfolding writes_from stores_from
  stored_writes vec zero i w h = refl
  stored_writes vec (suc n) i w h = rw (placed vec i w h) (stored_writes vec n (suc i) _ h)

-- ---- a word

whole_at_lem : (n i k : ℕ) → i ≤ n → k < 4 → whole_vectors V4x32 n (4 * i + k) ≡ i
unfolding whole_vectors vector_bits
whole_at_lem n i k h l = omega arith

done_at : (r : Registers) (u : Unpacking) (i k : ℕ) → i ≤ vectors_before r.cl r.wl u.count → k < 4 → done_after V4x32 r u (4 * i + k) ≡ writes_done r.cl r.wl i u.count
unfolding done_after
done_at r u i k h l = rw (whole_at_lem (vectors_before r.cl r.wl u.count) i k h l)

-- one that completes no vector writes nothing
word_inside : (size : ℕ) (u : Unpacking) (r : Registers) (i k x : ℕ) (w : Written) → taken_words V4x32 r u ≡ 4 * i + k
    → i ≤ vectors_before r.cl r.wl u.count → k < 3
    → unpack_word size V4x32 u r x w ≡ w
word_inside size u r i k x w e h l =
    let n = vectors_before r.cl r.wl u.count in
    let q : 4 * i + k + 1 ≡ 4 * i + (k + 1) = omega arith in
    let s : whole_vectors V4x32 n (4 * i + k) ≡ whole_vectors V4x32 n (4 * i + k + 1) = whole_at_lem n i k h (omega arith) ∙ sym (rw q (whole_at_lem n i (k + 1) h (omega arith))) in
    sym (word_taken size V4x32 u r x w (sym e) refl refl refl (none_completed size V4x32 u r x (4 * i + k) _ _ w s))

four_held : (usn : Bool) {a b c d : ℕ} → Words (a ∷ b ∷ c ∷ d ∷ []) → vector_at V4x32 usn (value (a ∷ b ∷ c ∷ d ∷ [])) 0 ≡ a ∷ b ∷ c ∷ d ∷ []
unfolding payload_vector four_words vector_bits
four_held usn h = v4_vector usn h 0

held_four : (u : Unpacking) (x i : ℕ) → Words (u.first ∷ u.second ∷ u.third ∷ x ∷ [])
    → held_vector V4x32 u x (4 * i + 3) i ≡ u.first ∷ u.second ∷ u.third ∷ x ∷ []
unfolding held_vector vector_bits
held_four u x i h = let b : i * 128 + 96 - 32 * (4 * i + 3) ≡ 0 = omega arith in rw b (four_held u.usn h)

vector_number : (i : ℕ) {v : ℕ} → VectorIn V4x32 (4 * i + 3) v → v ≡ i
unfolding vector_bits
vector_number i y = let lo = y.ends_after in let hi = y.ends_inside in omega arith

-- the fourth of vector i writes it, and the fills after it
word_writes : (size : ℕ) (u : Unpacking) (r : Registers) (i x : ℕ) (vec : ℕ → List ℕ) (w : Written) → 1 ≤ r.wl → taken_words V4x32 r u ≡ 4 * i + 3
    → Words (u.first ∷ u.second ∷ u.third ∷ x ∷ []) → vec i ≡ u.first ∷ u.second ∷ u.third ∷ x ∷ []
    → unpack_word size V4x32 u r x w
    ≡ writes_from size u.address (acting V4x32 u r) vec (done_after V4x32 r u (4 * i + 3 + 1) - done_after V4x32 r u (4 * i + 3))
    (done_after V4x32 r u (4 * i + 3))
    w
unfolding unpack_word word_of done_after acting
word_writes size u r i x vec w c e ws ev =
    rw e
    (same_writes size u.address (acting V4x32 u r) (held_vector V4x32 u x (4 * i + 3)) vec _ _ w
    (λ j l m. held (write_in V4x32 r.cl r.wl u.count (4 * i + 3) j c l (omega arith))))
  where
    held : {j : ℕ} → WriteIn V4x32 r.cl r.wl (4 * i + 3) j
        → last_vector (held_vector V4x32 u x (4 * i + 3)) (vectors_before r.cl r.wl (suc j)) ≡ last_vector vec (vectors_before r.cl r.wl (suc j))
    held y = rw (y.is, vector_number i y.ends) (held_four u x i ws ∙ sym ev)

word_ends : (size : ℕ) (u : Unpacking) (r : Registers) (i x : ℕ) (vec : ℕ → List ℕ) (w : Written) → 1 ≤ r.wl → taken_words V4x32 r u ≡ 4 * i + 3
    → suc i ≤ vectors_before r.cl r.wl u.count → Words (u.first ∷ u.second ∷ u.third ∷ x ∷ [])
    → vec i ≡ u.first ∷ u.second ∷ u.third ∷ x ∷ []
    → unpack_word size V4x32 u r x w
    ≡ writes_from size u.address (acting V4x32 u r) vec (writes_done r.cl r.wl (suc i) u.count - writes_done r.cl r.wl i u.count)
    (writes_done r.cl r.wl i u.count)
    w
word_ends size u r i x vec w c e h ws ev =
    let q : 4 * i + 3 + 1 ≡ 4 * suc i + 0 = omega arith in
    let b = done_at r u i 3 (omega arith) (omega arith) in
    let t = done_at r u (suc i) 0 h (omega arith) in
    rw (q, b, t) at (word_writes size u r i x vec w c e ws ev)

-- ---- words one by one, and whole vectors

module _ (r : Registers) (u : Unpacking) (x : UnpackingFits V4x32 r.cl r.wl u) where
  pub due_most : u.due ≤ 4 * vectors_before r.cl r.wl u.count
  due_most = let m = x.most in let v = v4_words (vectors_before r.cl r.wl u.count) in omega arith

  pub taken_words_lem : taken_words V4x32 r u ≡ 4 * vectors_before r.cl r.wl u.count - u.due
  unfolding taken_words
  taken_words_lem = rw (v4_words (vectors_before r.cl r.wl u.count))

taken_more : (r : Registers) (u : Unpacking) (k x : ℕ) → taken_words V4x32 r u ≡ k → 1 ≤ u.due → u.due ≤ payload_for V4x32 r.cl r.wl u.count
    → taken_words V4x32 r (holds u x) ≡ k + 1
unfolding taken_words
taken_more r u k x e h l = omega arith

-- words that complete no vector
few_nothing : (size : ℕ) (r : Registers) (main : List ℕ) (t k a i : ℕ) (u : Unpacking) (w : Written) → taken_words V4x32 r u ≡ 4 * i + k
    → i ≤ vectors_before r.cl r.wl u.count → k + t ≤ 3 → t ≤ u.due → u.due ≤ payload_for V4x32 r.cl r.wl u.count
    → take_words size V4x32 u r (words_from main a t) w ≡ w
unfolding take_words words_from
few_nothing size r main zero k a i u w e h l d m = refl
few_nothing size r main (suc t) k a i u w e h l d m =
    ap (take_words size V4x32 (holds u (word_at main a)) r (words_from main (a + 4) t)) (word_inside size u r i k (word_at main a) w e h (omega arith))
    ∙ (few_nothing size r main t (suc k) (a + 4) i (holds u (word_at main a)) w (taken_more r u (4 * i + k) (word_at main a) e (omega arith) m ∙ omega arith) h (omega arith) (omega arith) (omega arith))

-- four words from the start of vector i on
four_taken : (size : ℕ) (u : Unpacking) (r : Registers) (vec : ℕ → List ℕ) (i x y z v : ℕ) (w : Written) → 1 ≤ r.wl → taken_words V4x32 r u ≡ 4 * i
    → suc i ≤ vectors_before r.cl r.wl u.count → 4 ≤ u.due → u.due ≤ payload_for V4x32 r.cl r.wl u.count
    → Words (x ∷ y ∷ z ∷ v ∷ []) → vec i ≡ x ∷ y ∷ z ∷ v ∷ [] → (ws : List ℕ)
    → take_words size V4x32 u r (x ∷ y ∷ z ∷ v ∷ ws) w
    ≡ take_words size V4x32 (holds (holds (holds (holds u x) y) z) v) r ws
    (writes_from size u.address (acting V4x32 u r) vec (writes_done r.cl r.wl (suc i) u.count - writes_done r.cl r.wl i u.count)
    (writes_done r.cl r.wl i u.count)
    w)
unfolding take_words acting
four_taken size u r vec i x y z v w c e n h l g ev ws =
    let u1 = holds u x in
    let u2 = holds u1 y in
    let u3 = holds u2 z in
    let e0 : taken_words V4x32 r u ≡ 4 * i + 0 = omega arith in
    let e1 : taken_words V4x32 r u1 ≡ 4 * i + 1 = taken_more r u (4 * i) x e (omega arith) l in
    let e2 : taken_words V4x32 r u2 ≡ 4 * i + 2 = taken_more r u1 (4 * i + 1) y e1 (omega arith) (omega arith) ∙ omega arith in
    let e3 : taken_words V4x32 r u3 ≡ 4 * i + 3 = taken_more r u2 (4 * i + 2) z e2 (omega arith) (omega arith) ∙ omega arith in
    rw (word_inside size u r i 0 x w e0 (omega arith) (omega arith), word_inside size u1 r i 1 y w e1 (omega arith) (omega arith), word_inside size u2 r i 2 z w e2 (omega arith) (omega arith), word_ends size u3 r i v vec w c e3 n g ev)

four_on : (r : Registers) (u : Unpacking) (i x y z v : ℕ) → taken_words V4x32 r u ≡ 4 * i → 4 ≤ u.due → u.due ≤ payload_for V4x32 r.cl r.wl u.count
    → taken_words V4x32 r (holds (holds (holds (holds u x) y) z) v) ≡ 4 * suc i
unfolding taken_words
four_on r u i x y z v e h l = omega arith

pub word_below : (main : List ℕ) → ((k : ℕ) → get_or main k 0 < 256) → (b : ℕ) → word_at main b < 2 ^ 32
unfolding word_at
word_below main h b = omega (arith, h b, h (b + 1), h (b + 2), h (b + 3))

-- the words from the start of vector i on make the writes of their whole vectors
module _ (size : ℕ) (main : List ℕ) (bytes : (k : ℕ) → get_or main k 0 < 256) (a j : ℕ) where
  vectors_taken : (n t i : ℕ) (u : Unpacking) (r : Registers) (w : Written) → 1 ≤ r.wl → j ≤ i → taken_words V4x32 r u ≡ 4 * i → t < 4 → 4 * n + t ≤ u.due
      → i + n ≤ vectors_before r.cl r.wl u.count → u.due ≤ payload_for V4x32 r.cl r.wl u.count
      → take_words size V4x32 u r (words_from main (a + 16 * i - 16 * j) (4 * n + t)) w
      ≡ writes_from size u.address (acting V4x32 u r) (λ (i : ℕ). quad_from main (a + 16 * i - 16 * j))
      (writes_done r.cl r.wl (i + n) u.count - writes_done r.cl r.wl i u.count)
      (writes_done r.cl r.wl i u.count)
      w
  unfolding take_words words_from writes_from quad_from acting
  vectors_taken zero t i u r w c h e s d n m =
      let z : i + 0 ≡ i = omega arith in
      let y : writes_done r.cl r.wl i u.count - writes_done r.cl r.wl i u.count ≡ 0 = omega arith in
      let x : 4 * 0 + t ≡ t = omega arith in
      rw (x, z, y) (few_nothing size r main t 0 (a + 16 * i - 16 * j) i u w (omega arith) (omega arith) (omega arith) (omega arith) m)
  vectors_taken (suc n) t i u r w c h e s d l m =
      let b = a + 16 * i - 16 * j in
      let k : 4 * suc n + t ≡ suc (suc (suc (suc (4 * n + t)))) = omega arith in
      let a2 : b + 4 + 4 ≡ b + 8 = omega arith in
      let a3 : b + 8 + 4 ≡ b + 12 = omega arith in
      let a4 : b + 12 + 4 ≡ a + 16 * suc i - 16 * j = omega arith in
      let y = word_below main bytes in
      let u4 = holds (holds (holds (holds u (word_at main b)) (word_at main (b + 4))) (word_at main (b + 8))) (word_at main (b + 12)) in
      let z : i + suc n ≡ suc i + n = omega arith in
      let vec : ℕ → List ℕ = λ (i : ℕ). quad_from main (a + 16 * i - 16 * j) in
      rw (k, a2, a3, a4, z)
      (four_taken size u r vec i _ _ _ _ w c e (omega arith) (omega arith) m (four_words_lem (y b) (y (b + 4)) (y (b + 8)) (y (b + 12))) refl (words_from main (a + 16 * suc i - 16 * j) (4 * n + t))
      ∙ vectors_taken n t (suc i) u4 r _ c (omega arith) (four_on r u i (word_at main b) (word_at main (b + 4)) (word_at main (b + 8)) (word_at main (b + 12)) e (omega arith) m) s (omega arith) (omega arith) (omega arith)
      ∙ writes_to size u.address (acting V4x32 u r) vec (writes_done r.cl r.wl i u.count) (writes_done r.cl r.wl (suc i) u.count) (writes_done r.cl r.wl (suc i + n) u.count) w (done_mono r.cl r.wl c i (suc i) u.count (omega arith)) (done_mono r.cl r.wl c (suc i) (suc i + n) u.count (omega arith)))

-- ---- the two laws

clear_mask : (u : Unpacking) (r : Registers) → u.masked ≡ false → (acting V4x32 u r).mask ≡ 0
unfolding acting mask_of if
clear_mask u r h = rw h

kept_mode : (u : Unpacking) (r : Registers) → r.mode ≡ 0 → (acting V4x32 u r).mode ≡ 0
unfolding acting if
kept_mode u r h = h

-- writes of an UNPACK of this kind
short_writes : (size : ℕ) (u : Unpacking) (r : Registers) (vec : ℕ → List ℕ) (n i : ℕ) (row mem : List ℕ) → u.masked ≡ false → r.mode ≡ 0 → length row ≡ 4
    → writes_from size u.address (acting V4x32 u r) vec n i (written row mem)
    ≡ written row
    (stores_from (position_of size u.address r.cl r.wl) (λ (j : ℕ). last_vector vec (vectors_before r.cl r.wl (suc j))) n i mem)
unfolding acting
short_writes size u r vec n i row mem c p h =
    stored_writes size u.address (acting V4x32 u r) (kept_mode u r p) (clear_mask u r c) vec n i (written row mem) h

-- where CL is not 0, each write has a vector
pub last_is : (cl wl : ℕ) → 1 ≤ cl → 1 ≤ wl → (vec : ℕ → List ℕ) (j : ℕ) → last_vector vec (vectors_before cl wl (suc j)) ≡ vec (vectors_before cl wl (suc j) - 1)
last_is cl wl c w vec j = go (vectors_before cl wl (suc j)) (vectors_some cl wl c w (suc j) (omega arith))
  where
    go : (v : ℕ) → 1 ≤ v → last_vector vec v ≡ vec (v - 1)
    go zero h = absurd (omega arith)
    go (suc v) h = ap vec (omega arith)

-- One word that is not the fourth of its vector leaves all as it was,
pub word_waits : {size : ℕ} {u : Unpacking} {r : Registers} {mem : List ℕ} (word : ℕ) → ShortFits size u r mem → (u.due % 4 ≡ 1 → ⊥)
    → ShortWord size u r word mem mem
word_waits {size} {u} {r} {mem} word x h =
    let f = x.unpacking in
    let n = vectors_before r.cl r.wl u.count in
    let d = due_most r u f in
    let l = f.left in
    let t = taken_words_lem r u f in
    record {
      leaves = λ row g. word_inside size u r ((4 * n - u.due) / 4) ((4 * n - u.due) % 4) word (written row mem) (t ∙ omega arith) (omega arith) (not_third (omega arith));
    }
  where
    not_third : {k : ℕ} → (k < 4) × (k ≡ 3 → ⊥) → k < 3
    not_third p = omega arith

-- and the fourth stores the four as they came, at the places of the vector's write and of the fills after it: the law for a word, of every word and every
-- waiting UNPACK of this kind
pub word_short : {size : ℕ} {u : Unpacking} {r : Registers} {mem : List ℕ} (word : ℕ) {v first last : ℕ} {words m : List ℕ} → ShortFits size u r mem
    → u.due % 4 ≡ 1 → v ≡ vectors_before r.cl r.wl u.count - u.due / 4 - 1
    → first ≡ writes_done r.cl r.wl v u.count → last ≡ writes_done r.cl r.wl (v + 1) u.count
    → (words ≡ u.first ∷ u.second ∷ u.third ∷ word ∷ []) × (u.first < 2 ^ 32) × (u.second < 2 ^ 32) × (u.third < 2 ^ 32) × (word < 2 ^ 32)
    → m ≡ stores_from (position_of size u.address r.cl r.wl) (λ (i : ℕ). words) (last - first) first mem
    → ShortWord size u r word mem m
word_short {size} {u} {r} {mem} word {v} {first} {last} {words} x h ev ef el ew em =
    let f = x.unpacking in
    let d = due_most r u f in
    let l = f.left in
    let c = x.cycle.some in
    let k = due_cycle V4x32 r.cl r.wl u c f in
    let t : taken_words V4x32 r u ≡ 4 * v + 3 = taken_words_lem r u f ∙ omega arith in
    let vec : ℕ → List ℕ = λ (i : ℕ). words in
    record {
      leaves =
          λ row g.
          word_ends size u r v word vec (written row mem) c t (omega arith) (four_words_lem ew.1 ew.2 ew.3 ew.4) ew.0
          ∙ short_writes size u r vec _ _ row mem x.clear x.plain g
          ∙ rw (em, el, ef, add-one) (ap (written row) (same_stores _ _ _ _ _ _ mem (λ j. refl) (λ j. last_is r.cl r.wl k c vec j)));
    }

-- the words of a write, by its vector
write_words : (main : List ℕ) (cl wl a v first : ℕ) → 1 ≤ cl → 1 ≤ wl → vectors_before cl wl first ≡ v → (j : ℕ)
    → last_vector (λ (i : ℕ). quad_from main (a + 16 * i - 16 * v)) (vectors_before cl wl (suc j)) ≡ words_of_write main a cl wl first j
unfolding words_of_write
write_words main cl wl a v first c w e j =
    let s = vectors_some cl wl c w (suc j) (omega arith) in
    last_is cl wl c w (λ (i : ℕ). quad_from main (a + 16 * i - 16 * v)) j ∙ ap (quad_from main) (omega arith)

-- Words of main memory from the start of a vector on: their whole vectors are copied to the places of their writes and of the fills after them, the words
-- after them are held. The law for a burst, of every waiting UNPACK of this kind.
pub vectors_short : {size : ℕ} {u : Unpacking} {r : Registers} {mem : List ℕ} (main : List ℕ) (a n : ℕ) {v first last : ℕ} {m : List ℕ}
    → ((k : ℕ) → get_or main k 0 < 256) → ShortFits size u r mem → u.due % 4 ≡ 0 → n ≤ u.due
    → v ≡ vectors_before r.cl r.wl u.count - u.due / 4
    → first ≡ writes_done r.cl r.wl v u.count → last ≡ writes_done r.cl r.wl (v + n / 4) u.count
    → m ≡ stores_from (position_of size u.address r.cl r.wl) (words_of_write main a r.cl r.wl first) (last - first) first mem
    → ShortCopy size u r (words_from main a n) mem m
vectors_short {size} {u} {r} {mem} main a n {v} {first} {last} bytes x h few ev ef el em =
    let f = x.unpacking in
    let d = due_most r u f in
    let l = f.left in
    let c = x.cycle.some in
    let k = due_cycle V4x32 r.cl r.wl u c f in
    let t : taken_words V4x32 r u ≡ 4 * v = taken_words_lem r u f ∙ omega arith in
    let z : a + 16 * v - 16 * v ≡ a = omega arith in
    let s : 4 * (n / 4) + n % 4 ≡ n = omega arith in
    let y : vectors_before r.cl r.wl first ≡ v = ap (vectors_before r.cl r.wl) ef ∙ (done_vectors r.cl r.wl u.count c v (omega arith)).here in
    record {
      leaves =
          λ row g.
          (rw (z, s) at (vectors_taken size main bytes a v (n / 4) (n % 4) v u r (written row mem) c (omega arith) t (omega arith) (omega arith) (omega arith) f.most))
          ∙ short_writes size u r (λ (i : ℕ). quad_from main (a + 16 * i - 16 * v)) _ _ row mem x.clear x.plain g
          ∙ rw (em, ← ef, ← el) (ap (written row) (same_stores _ _ _ _ _ _ mem (λ j. refl) (λ j. write_words main r.cl r.wl a v first k c y j)));
    }

-- ---- what the functions need

-- the numbers of an UNPACK of this kind
pub record Numbers (u : Unpacking) (r : Registers) : Type 0 where
  pub cycle : 1 ≤ r.cl
  pub due : u.due ≤ 4 * vectors_before r.cl r.wl u.count
  pub left : 1 ≤ u.due
  pub vectors : vectors_before r.cl r.wl u.count ≤ u.count
  pub few : u.count ≤ 256

pub numbers : {size : ℕ} {u : Unpacking} {r : Registers} {mem : List ℕ} → ShortFits size u r mem → Numbers u r
numbers {size} {u} {r} x =
    let f = x.unpacking in
    record {
      cycle = due_cycle V4x32 r.cl r.wl u x.cycle.some f;
      due = due_most r u f;
      left = f.left;
      vectors = vectors_few r.cl r.wl u.count;
      few = f.few;
    }

pub copy_fits : {size : ℕ} {u : Unpacking} {r : Registers} {mem main : List ℕ} {a n v first last : ℕ} → ShortFits size u r mem → 4 ≤ n → n + u.due % 4 < u.due
    → a + 4 * n ≤ length main → a < 4294967296 → v ≡ vectors_before r.cl r.wl u.count - u.due / 4
    → first ≡ writes_done r.cl r.wl v u.count → last ≡ writes_done r.cl r.wl (v + n / 4) u.count
    → CopyFits size u.address r.cl r.wl first last a main mem
copy_fits {size} {u} {r} {mem} {main} {a} {n} {v} {first} {last} x few due lies near ev ef el =
    let k = numbers x in
    let kd = k.due in
    let kl = k.left in
    let kf = k.few in
    let c = x.cycle.some in
    let d = done_vectors r.cl r.wl u.count c v (omega arith) in
    let m = done_more r.cl r.wl u.count c v (n / 4) (omega arith) (omega arith) in
    let b = done_below r.cl r.wl u.count c (v + n / 4) in
    let t = done_few r.cl r.wl c (v + n / 4) u.count in
    let dh = d.here in
    record {
      cycle = x.cycle;
      memory = x.memory;
      inside = x.unpacking.inside;
      some = omega arith;
      few = omega arith;
      begins = rw ef (d.next ∙ ap suc (sym dh));
      lies = rw (ef, el) (omega arith);
      near = near;
    }

-- the same for the UNPACK once the vector is ended
ended_fits : {size : ℕ} {u ended : Unpacking} {r : Registers} {mem : List ℕ} → ShortFits size u r mem → Ended u ended → 1 ≤ ended.due
    → ShortFits size ended r mem
ended_fits {u = u} {ended} {r} x e h =
    let f = x.unpacking in
    let d = e.due in
    let m = f.most in
    record {
      cycle = x.cycle;
      memory = x.memory;
      unpacking =
          record {
            inside = rw e.address f.inside;
            some = rw e.count f.some;
            few = rw e.count f.few;
            left = h;
            most = rw e.count (omega arith);
          };
      clear = e.masked ∙ x.clear;
      plain = x.plain;
    }

pub vectors_after : {size : ℕ} {u ended : Unpacking} {r : Registers} {mem : List ℕ} (main : List ℕ) (a n : ℕ) {v first last : ℕ} {m : List ℕ}
    → ((k : ℕ) → get_or main k 0 < 256) → ShortFits size u r mem → Ended u ended → 4 ≤ n → n + u.due % 4 < u.due
    → v ≡ vectors_before r.cl r.wl u.count - u.due / 4
    → first ≡ writes_done r.cl r.wl v u.count → last ≡ writes_done r.cl r.wl (v + n / 4) u.count
    → m ≡ stores_from (position_of size u.address r.cl r.wl) (words_of_write main a r.cl r.wl first) (last - first) first mem
    → ShortCopy size ended r (words_from main a n) mem m
vectors_after {u = u} {ended} {r} main a n {v} {first} {last} bytes x e some few ev ef el em =
    let d = e.due in
    let q : ended.due / 4 ≡ u.due / 4 = omega arith in
    vectors_short main a n {v = v} {first = first} {last = last} bytes (ended_fits x e (omega arith)) (omega arith) (omega arith) (rw (e.count, q) ev) (rw e.count ef) (rw e.count el) (rw e.address em)

-- ---- what waits

pub held_on : (main : List ℕ) (m a : ℕ) (u : Unpacking)
    → held_after u (words_from main a (m + 3)) ≡ skipped u (m + 3) (word_at main (a + 4 * m)) (word_at main (a + 4 * m + 4)) (word_at main (a + 4 * m + 8))
unfolding held_after words_from
held_on main zero a u =
    let a0 : a + 4 * 0 ≡ a = omega arith in
    let a2 : a + 4 + 4 ≡ a + 8 = omega arith in
    let d : u.due - 1 - 1 - 1 ≡ u.due - 3 = omega arith in
    rw (a0, a2, d)
held_on main (suc m) a u =
    let k : suc m + 3 ≡ suc (m + 3) = omega arith in
    let b : a + 4 * suc m ≡ a + 4 + 4 * m = omega arith in
    let d : u.due - suc (m + 3) ≡ u.due - 1 - (m + 3) = omega arith in
    rw (k, b, d) (held_on main m (a + 4) (holds u (word_at main a)))

pub copied_words : {size : ℕ} {u : Unpacking} {r : Registers} {mem m : List ℕ} (main : List ℕ) (a n : ℕ) {rest : Unpacking} → 4 ≤ n
    → ShortCopy size u r (words_from main a n) mem m
    → rest ≡ skipped u n (word_at main (a + 4 * n - 12)) (word_at main (a + 4 * n - 8)) (word_at main (a + 4 * n - 4))
    → ShortWords size u r (words_from main a n) mem rest m
unfolding taken_by
copied_words {u = u} main a n h c e =
    let k : n - 3 + 3 ≡ n = omega arith in
    let b1 : a + 4 * (n - 3) ≡ a + 4 * n - 12 = omega arith in
    let b2 : a + 4 * n - 12 + 4 ≡ a + 4 * n - 8 = omega arith in
    let b3 : a + 4 * n - 12 + 8 ≡ a + 4 * n - 4 = omega arith in
    let t = rw (k, b1, b2, b3) at (held_on main (n - 3) a u) in
    record { leaves = λ row g. rw (c.leaves row g, t, e) }

pub words_append : (main : List ℕ) (m n a : ℕ) → words_from main a (m + n) ≡ words_from main a m ++ words_from main (a + 4 * m) n
unfolding words_from
words_append main zero n a =
    let e : 0 + n ≡ n = omega arith in
    let b : a + 4 * 0 ≡ a = omega arith in
    rw (e, b)
words_append main (suc m) n a =
    let e : suc m + n ≡ suc (m + n) = omega arith in
    let b : a + 4 * suc m ≡ a + 4 + 4 * m = omega arith in
    rw (e, b) (ap (λ (ws : List ℕ). word_at main a ∷ ws) (words_append main m n (a + 4)))

-- words and then more of them
pub copy_join : {size : ℕ} {u : Unpacking} {r : Registers} {mem m o : List ℕ} (main : List ℕ) (a k n : ℕ) → k ≤ n
    → ShortCopy size u r (words_from main a k) mem m → ShortCopy size (held_after u (words_from main a k)) r (words_from main (a + 4 * k) (n - k)) m o
    → ShortCopy size u r (words_from main a n) mem o
copy_join {size} {u} {r} {mem} main a k n h x y =
    let e : k + (n - k) ≡ n = omega arith in
    let s = rw e at (words_append main k (n - k) a) in
    record {
      leaves =
          λ row g.
          rw (s, take_join size V4x32 u r (words_from main a k) (words_from main (a + 4 * k) (n - k)) (written row mem), x.leaves row g) (y.leaves row g);
    }

-- what the words of a vector's end leave waiting
pub after_words : (main : List ℕ) (n a : ℕ) (u : Unpacking) → n ≤ u.due
    → ((held_after u (words_from main a n)).address ≡ u.address) × ((held_after u (words_from main a n)).count ≡ u.count)
    × ((held_after u (words_from main a n)).masked ≡ u.masked)
    × ((held_after u (words_from main a n)).due + n ≡ u.due)
unfolding held_after words_from
after_words main zero a u h = (refl, refl, refl, add-zero u.due)
after_words main (suc n) a u h =
    let i = after_words main n (a + 4) (holds u (word_at main a)) (omega arith) in
    let d = i.3 in
    (i.0, i.1, i.2, omega arith)

pub after_end : (main : List ℕ) (a : ℕ) (u : Unpacking) → Ended u (held_after u (words_from main a (u.due % 4)))
after_end main a u =
    let i = after_words main (u.due % 4) a u (omega arith) in
    record { address = i.0; count = i.1; masked = i.2; due = i.3 }

-- no words
pub copy_nothing : {size : ℕ} {u : Unpacking} {r : Registers} {mem : List ℕ} (main : List ℕ) (a n : ℕ) → n ≡ 0 → ShortCopy size u r (words_from main a n) mem mem
unfolding words_from take_words
copy_nothing main a n e = record { leaves = λ row g. rw e }

-- words without what waits after them
pub words_copy : {size : ℕ} {u rest : Unpacking} {r : Registers} {ws mem m : List ℕ} → ShortWords size u r ws mem rest m → ShortCopy size u r ws mem m
unfolding taken_by
words_copy x = record { leaves = λ row g. ap (λ (z : WordsLeft). written z.row z.mem) (x.leaves row g) }

pub short_again : {size : ℕ} {u : Unpacking} {r : Registers} {mem m : List ℕ} → ShortFits size u r mem → length m ≡ length mem → ShortFits size u r m
short_again x e =
    record {
      cycle = x.cycle;
      memory = record { some = x.memory.some; most = x.memory.most; long = e ∙ x.memory.long };
      unpacking = x.unpacking;
      clear = x.clear;
      plain = x.plain;
    }

-- one word less due
pub short_on : {size : ℕ} {u : Unpacking} {r : Registers} {mem m : List ℕ} (word : ℕ) → ShortFits size u r mem → length m ≡ length mem → 1 < u.due
    → ShortFits size (holds u word) r m
short_on word x e h =
    record {
      cycle = x.cycle;
      memory = record { some = x.memory.some; most = x.memory.most; long = e ∙ x.memory.long };
      unpacking = unpacking_on word x.unpacking h;
      clear = x.clear;
      plain = x.plain;
    }

-- ---- as the promises have it

pub word_as : {size : ℕ} {f : Format} {u : Unpacking} {r : Registers} {word : ℕ} {mem m : List ℕ} (row : List ℕ) → Short f u r → ShortWord size u r word mem m
    → length row ≡ 4 → written row m ≡ unpack_word size f u r word (written row mem)
word_as row s x h = rw s.whole (sym (x.leaves row h))

pub words_as : {size : ℕ} {f : Format} {u : Unpacking} {r : Registers} {ws mem m : List ℕ} {rest : Unpacking} (row : List ℕ) → Short f u r
    → ShortWords size u r ws mem rest m → length row ≡ 4
    → ◌≡◌ {A = WordsLeft} (record { accepted = true; row = row; mem = m; rest = rest }) (taken_by size f u r ws (written row mem))
words_as row s x h = rw s.whole (sym (x.leaves row h))

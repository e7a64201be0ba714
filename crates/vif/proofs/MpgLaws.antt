-- Words in code memory.
use mathlib.Core.Path.{◌≡◌, refl, sym, ◌∙◌}
use mathlib.Core.Bool.{Bool, true, false, ◌&&◌}
use mathlib.Core.List.{List, [], ◌∷◌}
use Prim.Native.Nat.{ℕ, zero, suc, ◌+◌, ◌*◌, ◌-◌, ◌/◌, ◌%◌, ◌^◌, ◌≤◌, ◌<◌, min}
use native.Mathlib.Nat.{mod-lt, mod-add-mod, mod-eq_of_lt}
use native.Mathlib.Omega.{arith}
use borrow.Author.Tests.{le-leb, lt-ltb}
use Rattle.std.proofs.Common.{take, drop, append_assoc, drop-drop, drop-cons, length-drop, w32}
use Rattle.std.proofs.lemmas.List.{length-take-le}
use Rattle.std.specs.Int.{to_le_bytes}
use borrow.Rule.Slice.PartMut.{put_mid}
use lib.ListN.{set, get_or, length}
use lib.Seq.{sets, sets-eq, get_or-set_other}
use lib.Dec.{leb, ltb}
use Rattle.fields.specs.Fields.{quadword}
use Rattle.fields.specs.Memory.{word_at}
use Rattle.fields.proofs.ChoiceLaws.{if_ind}
use Rattle.gif.specs.declared.GifPath.TheVariants.{Two}
use Rattle.gif.specs.declared.Path.{Path}
use Rattle.gif.specs.GifAnswer.{GifAnswer, Taken, Refused as GifRefused}
use Rattle.gif.specs.Step.{Left as GifLeft, gif_step}
use Rattle.memories.specs.declared.VifUnit.{VifUnit}
use Rattle.memories.specs.Units.{instructions}
use Rattle.memories.specs.Lengths.{Lent}
use Rattle.vif_codes.specs.declared.Incoming.{Incoming}
use Rattle.vif_codes.specs.declared.Incoming.TheVariants.{Word0, Word1, Word2, Word3}
use Rattle.vif_codes.specs.declared.Waiting.{Waiting}
use Rattle.vif_codes.specs.declared.Waiting.TheVariants.{Nothing, MaskDue, RowDue, ColDue, MpgDue, DirectDue, DirecthlDue, UnpackDue}
use Rattle.vif_codes.specs.declared.Vif.{Vif}
use Rattle.vif_codes.specs.Payload.{bytes_of, word_place, mpg_stored}
use Rattle.vif_codes.specs.Words.{word_in}
use Rattle.vif.specs.Inner.{stored_words, copy_bytes}
use Rattle.vif.specs.Step.{Left, after_gif, give_quadword, direct_step, mpg_refused, mpg_step, unpack_step, code_step, step_by, vif_step}

-- ---- parts of code memory

-- what is stored as a part is stored one after another
part_stored : (code vs : List ℕ) (at k : ℕ) {ys : List ℕ} → at + k ≤ length code → k ≡ length vs → ys ≡ vs → put_mid at k code ys ≡ sets code at vs
part_stored code vs at k h q r =
    rw (r, q, drop-drop (length vs) at code)
    (sym (sets-eq vs code at (omega arith) ∙ rw (append_assoc (take at code) vs)))

-- a word's bytes
word_digits : (word : ℕ) → word < 2 ^ 32 → to_le_bytes w32 word ≡ bytes_of word
word_digits word h = let e : word / 16777216 % 256 ≡ word / 16777216 = mod-eq_of_lt (omega arith) in rw e

pub word_stored : (code : List ℕ) (at k word : ℕ) {ys : List ℕ} → word < 2 ^ 32 → at + k ≤ length code → k ≡ 4 → ys ≡ to_le_bytes w32 word
    → put_mid at k code ys ≡ sets code at (bytes_of word)
word_stored code at k word b h q e = part_stored code (bytes_of word) at k h q (e ∙ word_digits word b)

copied_sets : (main : List ℕ) (n a to : ℕ) (code : List ℕ) → a + n ≤ length main → copy_bytes main n a to code ≡ sets code to (take n (drop a main))
unfolding copy_bytes
copied_sets main zero a to code h = refl
copied_sets main (suc n) a to code h =
    let l : a < length main = omega arith in
    let e : a + 1 ≡ suc a = omega arith in
    let f : to + 1 ≡ suc to = omega arith in
    rw (drop-cons main a 0, e, f) (copied_sets main n (suc a) (suc to) (set code to (get_or main a 0)) (omega arith))

-- so are bytes of main memory
pub part_copied : (main : List ℕ) (n a to j k : ℕ) (code : List ℕ) {ys : List ℕ} → a + n ≤ length main → to + n ≤ length code → j ≡ n → k ≡ n
    → ys ≡ take j (drop a main) → put_mid to k code ys ≡ copy_bytes main n a to code
part_copied main n a to j k code h l p q e =
    let m : n ≤ length (drop a main) = simp length-drop (omega arith) in
    let d : length (take n (drop a main)) ≡ n = length-take-le n (drop a main) m in
    part_stored code (take n (drop a main)) to k (omega arith) (q ∙ sym d) (rw (← p) e) ∙ sym (copied_sets main n a to code h)

-- a word's place lies inside, once over the memory's size
pub place_inside : (size a k : ℕ) → 1 ≤ size → word_place size a k + 4 ≤ 8 * size
unfolding word_place
place_inside size a k h = let m = mod-lt (a + k / 2) h in omega arith

-- ---- words one after another

-- a word's place is a multiple of four
pub place_word : (size a k : ℕ) → word_place size a k % 4 ≡ 0
unfolding word_place
place_word size a k = omega arith

-- how many words go up to the wrap
pub record Run (size at n run : ℕ) : Type 0 where
  pub some : 1 ≤ run
  pub most : run ≤ n
  pub fits : at + 4 * run ≤ 8 * size

pub run_fits : {size at n run : ℕ} → at % 4 ≡ 0 → at + 4 ≤ 8 * size → 1 ≤ n → run ≡ min n (2 * size - at / 4) → Run size at n run
run_fits m h l e = record { some = omega arith; most = omega arith; fits = omega arith }

-- the bytes of a number made of them
four_digits : {x y z w : ℕ} → x < 256 → y < 256 → z < 256
    → ((x + y * 256 + z * 65536 + w * 16777216) % 256 ≡ x) × ((x + y * 256 + z * 65536 + w * 16777216) / 256 % 256 ≡ y)
    × ((x + y * 256 + z * 65536 + w * 16777216) / 65536 % 256 ≡ z) × ((x + y * 256 + z * 65536 + w * 16777216) / 16777216 ≡ w)
four_digits {x} {y} {z} {w} h k l =
    let n = x + y * 256 + z * 65536 + w * 16777216 in
    let q : n / 256 ≡ y + z * 256 + w * 65536 = omega arith in
    let r : n / 65536 ≡ z + w * 256 = omega arith in
    let s : n / 16777216 ≡ w = omega arith in
    (omega arith, rw q (omega arith), rw r (omega arith), s)

-- the place of the next word, before the wrap
next_place : (size a k : ℕ) → 1 ≤ size → word_place size a k + 8 ≤ 8 * size → word_place size a (k + 1) ≡ word_place size a k + 4
unfolding word_place
next_place size a k s h = go (k % 2) refl
  where
    go : (b : ℕ) → k % 2 ≡ b → 8 * ((a + (k + 1) / 2) % size) + 4 * ((k + 1) % 2) ≡ 8 * ((a + k / 2) % size) + 4 * (k % 2) + 4
    go zero e =
        let d : (k + 1) / 2 ≡ k / 2 = omega arith in
        let m : (k + 1) % 2 ≡ 1 = omega arith in
        rw (d, m, e) (omega arith)
    go (suc zero) e =
        let d : a + (k + 1) / 2 ≡ a + k / 2 + 1 = omega arith in
        let m : (k + 1) % 2 ≡ 0 = omega arith in
        let l : (a + k / 2) % size + 1 < size = omega arith in
        let w : (a + k / 2 + 1) % size ≡ (a + k / 2) % size + 1 = sym (mod-add-mod (a + k / 2) size 1) ∙ mod-eq_of_lt l in
        rw (d, m, w, e) (omega arith)
    go (suc (suc b)) e = absurd (omega arith)

module _ (size address : ℕ) (main : List ℕ) where
  -- words, and then more of them
  stored_split : (m n k a : ℕ) (code : List ℕ)
      → stored_words size address main n (k + m) (a + 4 * m) (stored_words size address main m k a code) ≡ stored_words size address main (m + n) k a code
  unfolding stored_words
  stored_split zero n k a code =
      let e : k + 0 ≡ k = omega arith in
      let f : a + 4 * 0 ≡ a = omega arith in
      let g : 0 + n ≡ n = omega arith in
      rw (e, f, g)
  stored_split (suc m) n k a code =
      let e : k + suc m ≡ k + 1 + m = omega arith in
      let f : a + 4 * suc m ≡ a + 4 + 4 * m = omega arith in
      let g : suc m + n ≡ suc (m + n) = omega arith in
      rw (e, f, g) (stored_split m n (k + 1) (a + 4) _)

  module _ (bytes : (i : ℕ) → get_or main i 0 < 256) (s : 1 ≤ size) where
    -- a word's bytes are those of main memory
    word_bytes : (a to : ℕ) (code : List ℕ) (n : ℕ)
        → copy_bytes main (suc (suc (suc (suc n)))) a to code ≡ copy_bytes main n (a + 4) (to + 4) (sets code to (bytes_of (word_at main a)))
    unfolding copy_bytes word_at
    word_bytes a to code n =
        let e = four_digits {w = get_or main (a + 3) 0} (bytes a) (bytes (a + 1)) (bytes (a + 2)) in
        let e0 = e.0 in
        let e1 = e.1 in
        let e2 = e.2 in
        let e3 = e.3 in
        let a2 : a + 1 + 1 ≡ a + 2 = omega arith in
        let a3 : a + 2 + 1 ≡ a + 3 = omega arith in
        let a4 : a + 3 + 1 ≡ a + 4 = omega arith in
        let t1 : to + 1 ≡ suc to = omega arith in
        let t2 : suc to + 1 ≡ suc (suc to) = omega arith in
        let t3 : suc (suc to) + 1 ≡ suc (suc (suc to)) = omega arith in
        let t4 : suc (suc (suc to)) + 1 ≡ to + 4 = omega arith in
        rw (e0, e1, e2, e3, a2, a3, a4, t1, t2, t3, t4)

    copied_nothing : (a to : ℕ) (code : List ℕ) → code ≡ copy_bytes main (4 * 0) a to code
    unfolding copy_bytes
    copied_nothing a to code = refl

    copied_word : (a to : ℕ) (code : List ℕ) → sets code to (bytes_of (word_at main a)) ≡ copy_bytes main (4 * 1) a to code
    unfolding copy_bytes
    copied_word a to code = sym (word_bytes a to code 0)

    -- words up to the wrap are their bytes copied
    stored_run : (m k a : ℕ) (code : List ℕ) → word_place size address k + 4 * m ≤ 8 * size
        → stored_words size address main m k a code ≡ copy_bytes main (4 * m) a (word_place size address k) code
    unfolding stored_words
    stored_run zero k a code h = copied_nothing a (word_place size address k) code
    stored_run (suc zero) k a code h = copied_word a (word_place size address k) code
    stored_run (suc (suc m)) k a code h =
        let p = next_place size address k s (omega arith) in
        let e : 4 * suc (suc m) ≡ suc (suc (suc (suc (4 * suc m)))) = omega arith in
        stored_run (suc m) (k + 1) (a + 4) (sets code (word_place size address k) (bytes_of (word_at main a))) (omega arith)
        ∙ rw (p, e) (sym (word_bytes a (word_place size address k) code (4 * suc m)))

    pub run_stored : (n k j a run : ℕ) (code : List ℕ) {at : ℕ} {code' : List ℕ} → at ≡ word_place size address (k + j) → run ≤ n - j
        → at + 4 * run ≤ 8 * size → code' ≡ copy_bytes main (4 * run) (a + 4 * j) at code
        → stored_words size address main (n - (j + run)) (k + (j + run)) (a + 4 * (j + run)) code' ≡ stored_words size address main (n - j) (k + j) (a + 4 * j) code
    run_stored n k j a run code {at} {code'} ep h l ec =
        let e : k + (j + run) ≡ k + j + run = omega arith in
        let f : a + 4 * (j + run) ≡ a + 4 * j + 4 * run = omega arith in
        let g : run + (n - (j + run)) ≡ n - j = omega arith in
        let r : word_place size address (k + j) + 4 * run ≤ 8 * size = omega arith in
        let q : copy_bytes main (4 * run) (a + 4 * j) at code ≡ stored_words size address main run (k + j) (a + 4 * j) code = rw ep (sym (stored_run run (k + j) (a + 4 * j) code r)) in
        let c : code' ≡ stored_words size address main run (k + j) (a + 4 * j) code = ec ∙ q in
        rw (e, f, c) (rw g at (stored_split run (n - (j + run)) (k + j) (a + 4 * j) code))

  pub stored_first : (n k a : ℕ) (code : List ℕ) → stored_words size address main (n - 0) (k + 0) (a + 4 * 0) code ≡ stored_words size address main n k a code
  stored_first n k a code =
      let e : n - 0 ≡ n = omega arith in
      let f : k + 0 ≡ k = omega arith in
      let g : a + 4 * 0 ≡ a = omega arith in
      rw (e, f, g)

  pub stored_none : (n j k a : ℕ) (code : List ℕ) → n ≤ j → stored_words size address main (n - j) k a code ≡ code
  unfolding stored_words
  stored_none n j k a code h = let e : n - j ≡ 0 = omega arith in rw e

-- stores one after another leave every other place as it was
sets_outside : (vs l : List ℕ) (at j d : ℕ) → (at ≤ j → j < at + length vs → ⊥) → get_or (sets l at vs) j d ≡ get_or l j d
sets_outside [] l at j d h = refl
sets_outside (x ∷ vs) l at j d h =
    sets_outside vs (set l at x) (suc at) j d (λ a b. h (omega arith) (omega arith))
    ∙ get_or-set_other l at j x d (λ e. h (omega arith) (omega arith))

-- a word of MPG leaves every byte but its own four
pub stored_outside : (size a n due word : ℕ) (code : List ℕ) (j d : ℕ)
    → (word_place size a (n + n - due) ≤ j → j < word_place size a (n + n - due) + 4 → ⊥)
    → get_or (mpg_stored size a n due word code) j d ≡ get_or code j d
unfolding mpg_stored
stored_outside size a n due word code j d h = sets_outside (bytes_of word) code (word_place size a (n + n - due)) j d h

-- ---- code memory after a step

-- whether byte j of code memory is one of the four that the waiting code's next word goes to: none but MPG has any
abbrev pub stores_at : VifUnit → Waiting → ℕ → Bool
stores_at which Nothing j = false
stores_at which (MaskDue i) j = false
stores_at which (RowDue due i) j = false
stores_at which (ColDue due i) j = false
stores_at which (MpgDue a n due i) j = leb (word_place (instructions which) a (n + n - due)) j && ltb j (word_place (instructions which) a (n + n - due) + 4)
stores_at which (DirectDue due i) j = false
stores_at which (DirecthlDue due i) j = false
stores_at which (UnpackDue f u) j = false

not_between : (at j : ℕ) → (leb at j && ltb j (at + 4)) ≡ false → at ≤ j → j < at + 4 → ⊥
not_between at j h a b =
    let e : true ≡ false = rw (le-leb at j a, lt-ltb j (at + 4) b) at h in
    let z : ◌≡◌ {A = ℕ} 0 1 = cc in
    omega arith

module _ (which : VifUnit) (v : Vif) (p : Path) (used : ℕ) (m : Lent) where
  gif_code : (a : GifAnswer) (o : GifLeft) (due : ℕ) (i : Bool) (w : Waiting) → (after_gif a o v p due i w used m).memories.code ≡ m.code
  gif_code (Taken c) o due i w = refl
  gif_code (GifRefused n) o due i w = refl

  direct_code : (n : Incoming) (due : ℕ) (i : Bool) (w : Waiting) → (direct_step n v p due i w used m).memories.code ≡ m.code
  unfolding give_quadword
  direct_code (Word0 a b c d) due i w =
      let o = gif_step Two p (quadword (a + b * 2 ^ 32) (c + d * 2 ^ 32)) used m.log in
      gif_code o.answer o due i w
  direct_code (Word1 a) due i w = refl
  direct_code (Word2 a) due i w = refl
  direct_code (Word3 a) due i w = refl

  outside_by : (w : Waiting) (n : Incoming) (j d : ℕ) → stores_at which w j ≡ false → get_or (step_by which w v p n used m).memories.code j d ≡ get_or m.code j d
  unfolding code_step mpg_step unpack_step
  outside_by Nothing n j d h = refl
  outside_by (MaskDue i) n j d h = refl
  outside_by (RowDue due i) n j d h = refl
  outside_by (ColDue due i) n j d h = refl
  outside_by (MpgDue a k due i) n j d h =
      if_ind (λ (o : Left). get_or o.memories.code j d ≡ get_or m.code j d) (mpg_refused k due n) refl
      (stored_outside (instructions which) a k due (word_in n) m.code j d (not_between _ j h))
  outside_by (DirectDue due i) n j d h = rw (direct_code n due i (DirectDue (due - 1) i))
  outside_by (DirecthlDue due i) n j d h = rw (direct_code n due i (DirecthlDue (due - 1) i))
  outside_by (UnpackDue f u) n j d h = refl

  -- a step changes code memory only where MPG waits, and there only the four bytes of the word taken
  pub code_outside : (n : Incoming) (j d : ℕ) → stores_at which v.waiting j ≡ false → get_or (vif_step which v p n used m).memories.code j d ≡ get_or m.code j d
  unfolding vif_step
  code_outside n j d h = outside_by v.waiting n j d h

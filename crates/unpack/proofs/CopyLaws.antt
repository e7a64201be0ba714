-- Quadwords of main memory stored as they are: one after another, up to the wrap, apart and again where writes fill.
use mathlib.Core.Path.{◌≡◌, refl, sym, ap, ◌∙◌}
use mathlib.Core.Logic.{◌⊎◌, inl, inr, ⊎_elim}
use mathlib.Core.Bool.{Bool, true, false}
use mathlib.Core.List.{List, [], ◌∷◌}
use Prim.Native.Nat.{ℕ, zero, suc, ◌+◌, ◌*◌, ◌-◌, ◌/◌, ◌%◌, ◌^◌, ◌<◌, ◌≤◌}
use native.Mathlib.Nat.{add-zero, mod-add-mod, mod-eq_of_lt, mod-lt, mod_self, div_self, div-eq_of_lt, div-add-mod', mul-add-div_right, mul-add-mod_self_right, add-mul, eq-or-lt_of_le}
use native.Mathlib.Numerals.{add-one}
use native.Mathlib.Omega.{arith}
use borrow.Author.Tests.{ltb-true, ltb-false, le-ltb}
use lib.ListN.{length, set}
use Rattle.fields.specs.Memory.{word_at}
use Rattle.unpack_rules.specs.Position.{filling, fills, vectors_before, position_of}
use Rattle.unpack_rules.specs.Whole.{store_quadword}
use Rattle.unpack.specs.Short.{quad_from, stores_from, words_of_write, copy_words, CopyFits, Stride}
use Rattle.unpack_rules.proofs.CycleLaws.{plain_vectors, vectors_few, vectors_mono, fill_next, payload_next, fill_late, payload_early}
use Rattle.unpack_rules.proofs.WriteLaws.{plain_place, filling_place}

-- ---- stores one after another

module _ (place : ℕ → ℕ) (words : ℕ → List ℕ) where
  pub stores_more : (to i q : ℕ) (mem : List ℕ) {m x : List ℕ} → i < to → q ≡ place i → x ≡ words i → m ≡ store_quadword mem q x
      → stores_from place words (to - (i + 1)) (i + 1) m ≡ stores_from place words (to - i) i mem
  unfolding stores_from
  stores_more to i q mem h eq ew em = let k : to - i ≡ suc (to - (i + 1)) = omega arith in rw (k, em, ew, eq, add-one)

  pub stores_none : (to i : ℕ) (mem : List ℕ) → to ≤ i → stores_from place words (to - i) i mem ≡ mem
  unfolding stores_from
  stores_none to i mem h = let k : to - i ≡ 0 = omega arith in rw k

  pub stores_join : (m n i : ℕ) (mem : List ℕ) → stores_from place words n (i + m) (stores_from place words m i mem) ≡ stores_from place words (m + n) i mem
  unfolding stores_from
  stores_join zero n i mem =
      let j : i + 0 ≡ i = omega arith in
      let k : 0 + n ≡ n = omega arith in
      rw (j, k)
  stores_join (suc m) n i mem =
      let j : i + suc m ≡ suc i + m = omega arith in
      let k : suc m + n ≡ suc (m + n) = omega arith in
      rw (j, k) (stores_join m n (suc i) _)

pub same_stores : (place on : ℕ → ℕ) (words us : ℕ → List ℕ) (n i : ℕ) (mem : List ℕ) → ((j : ℕ) → place j ≡ on j) → ((j : ℕ) → words j ≡ us j)
    → stores_from place words n i mem ≡ stores_from on us n i mem
unfolding stores_from
same_stores place on words us zero i mem p q = refl
same_stores place on words us (suc n) i mem p q = rw (p i, q i) (same_stores place on words us n (suc i) _ p q)

-- the same under other numbers
pub moved_stores : (place on : ℕ → ℕ) (words us : ℕ → List ℕ) (n i k : ℕ) (mem : List ℕ) → ((j : ℕ) → j < n → place (i + j) ≡ on (k + j))
    → ((j : ℕ) → words (i + j) ≡ us (k + j))
    → stores_from place words n i mem ≡ stores_from on us n k mem
unfolding stores_from
moved_stores place on words us zero i k mem p q = refl
moved_stores place on words us (suc n) i k mem p q =
    let p0 : place i ≡ on k = ap place (omega arith) ∙ p 0 (omega arith) ∙ ap on (omega arith) in
    let q0 : words i ≡ us k = ap words (omega arith) ∙ q 0 ∙ ap us (omega arith) in
    rw (p0, q0)
    (moved_stores place on words us n (suc i) (suc k) _ (λ j l. ap place (omega arith) ∙ p (suc j) (omega arith) ∙ ap on (omega arith))
    (λ j. ap words (omega arith) ∙ q (suc j) ∙ ap us (omega arith)))

-- ---- words one after another

pub copied_more : (main : List ℕ) (n j a to : ℕ) (mem : List ℕ) {x : ℕ} → j < n → x ≡ word_at main (a + 4 * j)
    → copy_words main (n - (j + 1)) (a + 4 * (j + 1)) (to + (j + 1)) (set mem (to + j) x) ≡ copy_words main (n - j) (a + 4 * j) (to + j) mem
unfolding copy_words
copied_more main n j a to mem h e =
    let k : n - j ≡ suc (n - (j + 1)) = omega arith in
    let b : a + 4 * (j + 1) ≡ a + 4 * j + 4 = omega arith in
    let t : to + (j + 1) ≡ to + j + 1 = omega arith in
    rw (k, b, t, e)

pub copied_none : (main : List ℕ) (n j a to : ℕ) (mem : List ℕ) → n ≤ j → copy_words main (n - j) a to mem ≡ mem
unfolding copy_words
copied_none main n j a to mem h = let k : n - j ≡ 0 = omega arith in rw k

pub copied_first : (main : List ℕ) (n a to : ℕ) (mem : List ℕ) → copy_words main (n - 0) (a + 4 * 0) (to + 0) mem ≡ copy_words main n a to mem
copied_first main n a to mem =
    let k : n - 0 ≡ n = omega arith in
    let b : a + 4 * 0 ≡ a = omega arith in
    let t : to + 0 ≡ to = omega arith in
    rw (k, b, t)

module _ (main : List ℕ) where
  ends : (k a q : ℕ) (mem : List ℕ)
      → copy_words main (suc (suc (suc (suc k)))) a (4 * q) mem ≡ copy_words main k (a + 16) (4 * suc q) (store_quadword mem q (quad_from main a))
  unfolding copy_words store_quadword quad_from
  ends k a q mem =
      let a2 : a + 4 + 4 ≡ a + 8 = omega arith in
      let a3 : a + 8 + 4 ≡ a + 12 = omega arith in
      let a4 : a + 12 + 4 ≡ a + 16 = omega arith in
      let t2 : 4 * q + 1 + 1 ≡ 4 * q + 2 = omega arith in
      let t3 : 4 * q + 2 + 1 ≡ 4 * q + 3 = omega arith in
      let t4 : 4 * q + 3 + 1 ≡ 4 * suc q = omega arith in
      rw (a2, a3, a4, t2, t3, t4)

  -- vectors whose places follow one another are copied word by word
  run_copied : (place : ℕ → ℕ) (words : ℕ → List ℕ) (n a i q : ℕ) (mem : List ℕ) → ((j : ℕ) → j < n → place (i + j) ≡ q + j)
      → ((j : ℕ) → words (i + j) ≡ quad_from main (a + 16 * j))
      → copy_words main (4 * n) a (4 * q) mem ≡ stores_from place words n i mem
  unfolding copy_words stores_from
  run_copied place words zero a i q mem h g = refl
  run_copied place words (suc n) a i q mem h g =
      let e : 4 * suc n ≡ suc (suc (suc (suc (4 * n)))) = omega arith in
      let p : place i ≡ q = ap place (omega arith) ∙ h 0 (omega arith) ∙ omega arith in
      let z : a + 16 * 0 ≡ a = omega arith in
      let y : words i ≡ quad_from main a = ap words (omega arith) ∙ g 0 ∙ rw z in
      rw (e, p, y)
      (ends (4 * n) a q mem
      ∙ run_copied place words n (a + 16) (suc i) (suc q) _ (λ j l. ap place (omega arith) ∙ h (suc j) (omega arith) ∙ omega arith)
      (λ j. ap words (omega arith) ∙ g (suc j) ∙ ap (quad_from main) (omega arith)))

-- the places up to the wrap follow one another
pub places_follow : (size address i q run : ℕ) → q ≡ (address + i) % size → q + run ≤ size → (j : ℕ) → j < run → (address + (i + j)) % size ≡ q + j
places_follow size address i q run eq l j s =
    let b : address + (i + j) ≡ address + i + j = omega arith in
    rw (b, ← mod-add-mod (address + i) size j, ← eq) (mod-eq_of_lt (omega arith))

-- one run more, up to the wrap at most
pub run_more : (main : List ℕ) (size address first a to i at run q : ℕ) (mem : List ℕ) {m : List ℕ} → i + run ≤ to → at + 16 * first ≡ a + 16 * i
    → q ≡ (address + i) % size → q + run ≤ size → m ≡ copy_words main (4 * run) at (4 * q) mem
    → stores_from (λ (i : ℕ). (address + i) % size) (λ (i : ℕ). quad_from main (a + 16 * suc i - 16 * suc first)) (to - (i + run)) (i + run) m
    ≡ stores_from (λ (i : ℕ). (address + i) % size) (λ (i : ℕ). quad_from main (a + 16 * suc i - 16 * suc first)) (to - i) i mem
run_more main size address first a to i at run q mem h ea eq l em =
    let place : ℕ → ℕ = λ (i : ℕ). (address + i) % size in
    let words : ℕ → List ℕ = λ (i : ℕ). quad_from main (a + 16 * suc i - 16 * suc first) in
    let k : run + (to - (i + run)) ≡ to - i = omega arith in
    rw (em, run_copied main place words run at i q mem (places_follow size address i q run eq l) (λ j. ap (quad_from main) (omega arith))) (stores_join place words run (to - (i + run)) i mem ∙ rw k)

pub four_read : (main : List ℕ) (at : ℕ) {x y z w : ℕ} → x ≡ word_at main at → y ≡ word_at main (at + 4) → z ≡ word_at main (at + 8) → w ≡ word_at main (at + 12)
    → x ∷ y ∷ z ∷ w ∷ [] ≡ quad_from main at
unfolding quad_from
four_read main at ex ey ez ew = rw (ex, ey, ez, ew)

-- ---- places

-- CL = WL: quadwords one after another
pub even_place : (size a cl : ℕ) (i : ℕ) → (a + i) % size ≡ position_of size a cl cl i
even_place size a cl i =
    let d = div-add-mod' i cl in
    let e : a + i / cl * cl + i % cl ≡ a + i = omega arith in
    sym (plain_place size a cl cl i (le-ltb cl cl (omega arith)) ∙ rw e)

-- the next place, advanced
module _ (wl i : ℕ) (h : 1 ≤ wl) where
  turn_div : i % wl + 1 ≡ wl → (i + 1) / wl ≡ i / wl + 1
  turn_div e =
      let d = div-add-mod' i wl in
      let k : i + 1 ≡ i / wl * wl + wl = omega arith in
      rw (k, mul-add-div_right h (i / wl) wl, div_self h)

  turn_mod : i % wl + 1 ≡ wl → (i + 1) % wl ≡ 0
  turn_mod e =
      let d = div-add-mod' i wl in
      let k : i + 1 ≡ i / wl * wl + wl = omega arith in
      rw (k, mul-add-mod_self_right (i / wl) wl wl, mod_self wl)

  on_div : i % wl + 1 < wl → (i + 1) / wl ≡ i / wl
  on_div l =
      let d = div-add-mod' i wl in
      let k : i + 1 ≡ i / wl * wl + (i % wl + 1) = omega arith in
      rw (k, mul-add-div_right h (i / wl) (i % wl + 1), div-eq_of_lt l, add-zero)

  on_mod : i % wl + 1 < wl → (i + 1) % wl ≡ i % wl + 1
  on_mod l =
      let d = div-add-mod' i wl in
      let k : i + 1 ≡ i / wl * wl + (i % wl + 1) = omega arith in
      ap (λ (n : ℕ). n % wl) k ∙ mul-add-mod_self_right (i / wl) wl (i % wl + 1) ∙ mod-eq_of_lt l

  pub next_cycle : (c : ℕ) {d : ℕ} → c ≡ i % wl → (c + 1 ≡ wl → d ≡ 0) × (c + 1 < wl → d ≡ c + 1) → d ≡ (i + 1) % wl
  next_cycle c e f =
      let t = mod-lt i h in
      let z : c + 1 ≤ wl = omega arith in
      ⊎_elim (λ q. f.0 q ∙ sym (turn_mod (omega arith))) (λ l. let y = f.1 l in let o = on_mod (omega arith) in omega arith) (eq-or-lt_of_le z)

  next_plain : (size a cl q c : ℕ) {d : ℕ} → wl ≤ cl → q ≡ (a + i / wl * cl + i % wl) % size → c ≡ i % wl → Stride cl wl c d
      → (q + d) % size ≡ (a + (i + 1) / wl * cl + (i + 1) % wl) % size
  next_plain size a cl q c {d} b eq ec f =
      let t = mod-lt i h in
      let z : c + 1 ≤ wl = omega arith in
      rw (eq, mod-add-mod (a + i / wl * cl + i % wl) size d)
      (ap (λ (n : ℕ). n % size)
      (⊎_elim (λ e. let y = f.turns b e in rw (turn_div (omega arith), turn_mod (omega arith), add-mul (i / wl) 1 cl) (omega arith))
      (λ l. let y = f.on l in rw (on_div (omega arith), on_mod (omega arith)) (omega arith))
      (eq-or-lt_of_le z)))

  next_filling : (size a cl q c : ℕ) {d : ℕ} → cl < wl → q ≡ (a + i) % size → Stride cl wl c d → (q + d) % size ≡ (a + (i + 1)) % size
  next_filling size a cl q c {d} b eq f =
      let y = f.fills b in
      let e : a + i + d ≡ a + (i + 1) = omega arith in
      rw (eq, mod-add-mod (a + i) size d, e)

  pub next_place : (size a cl q c : ℕ) {d : ℕ} → q ≡ position_of size a cl wl i → c ≡ i % wl → Stride cl wl c d
      → (q + d) % size ≡ position_of size a cl wl (i + 1)
  next_place size a cl q c {d} eq ec f = go (filling cl wl) refl
    where
      go : (t : Bool) → filling cl wl ≡ t → (q + d) % size ≡ position_of size a cl wl (i + 1)
      go false e =
          next_plain size a cl q c (ltb-false cl wl e) (eq ∙ plain_place size a cl wl i e) ec f ∙ sym (plain_place size a cl wl (i + 1) e)
      go true e = next_filling size a cl q c (ltb-true cl wl e) (eq ∙ filling_place size a cl wl i e) f ∙ sym (filling_place size a cl wl (i + 1) e)

  -- the next write takes one vector more, or fills
  next_either : (cl c at s : ℕ) {b : ℕ} → c ≡ (i + 1) % wl → (c < cl → b ≡ at + s) × (cl ≤ c → b ≡ at)
      → ((vectors_before cl wl (suc (suc i)) ≡ suc (vectors_before cl wl (suc i))) × (b ≡ at + s))
      ⊎ ((vectors_before cl wl (suc (suc i)) ≡ vectors_before cl wl (suc i)) × (b ≡ at))
  next_either cl c at s {b} ec f = go (fills cl wl (i + 1)) refl
    where
      go : (t : Bool) → fills cl wl (i + 1) ≡ t
          → ((vectors_before cl wl (suc (suc i)) ≡ suc (vectors_before cl wl (suc i))) × (b ≡ at + s))
          ⊎ ((vectors_before cl wl (suc (suc i)) ≡ vectors_before cl wl (suc i)) × (b ≡ at))
      go true q = inr (rw (add-one, add-one) at (fill_next cl wl h (i + 1) q), f.1 (rw ec (fill_late cl wl h (i + 1) q)))
      go false q = inl (rw (add-one, add-one) at (payload_next cl wl h (i + 1) q), f.0 (rw ec (payload_early cl wl h (i + 1) q)))

  -- where its vector lies
  pub next_vector : (cl a at v c : ℕ) {b : ℕ} → at + v ≡ a + 16 * vectors_before cl wl (suc i) → c ≡ (i + 1) % wl
      → (c < cl → b ≡ at + 16) × (cl ≤ c → b ≡ at) → b + v ≡ a + 16 * vectors_before cl wl (suc (i + 1))
  next_vector cl a at v c e ec f =
      rw add-one
      (⊎_elim (λ p. let q = p.0 in let y = p.1 in omega arith) (λ p. let q = p.0 in let y = p.1 in omega arith) (next_either cl c at 16 ec f))

  -- which of the vectors read it is
  pub next_index : (cl at v c : ℕ) {b : ℕ} → at + v ≡ vectors_before cl wl (suc i) → c ≡ (i + 1) % wl → (c < cl → b ≡ at + 1) × (cl ≤ c → b ≡ at)
      → b + v ≡ vectors_before cl wl (suc (i + 1))
  next_index cl at v c e ec f =
      rw add-one
      (⊎_elim (λ p. let q = p.0 in let y = p.1 in omega arith) (λ p. let q = p.0 in let y = p.1 in omega arith) (next_either cl c at 1 ec f))

-- ---- what the functions need

module _ {size address cl wl first last a : ℕ} {main mem : List ℕ} (x : CopyFits size address cl wl first last a main mem) {i : ℕ} (at : ℕ) (l : i < last) (e : at + 16 * suc (vectors_before cl wl first) ≡ a + 16 * vectors_before cl wl (suc i)) where
  mono : vectors_before cl wl (suc i) ≤ vectors_before cl wl last
  mono =
      let q : suc i + (last - suc i) ≡ last = omega arith in
      rw q at (vectors_mono cl wl x.cycle.some (suc i) (last - suc i))

  -- the vector of a write lies inside main memory
  pub copy_inside : at + 16 ≤ length main
  copy_inside = let m = mono in let y = x.lies in omega arith

  pub copy_near : at < 2 ^ 33
  copy_near =
      let m = mono in
      let n = x.near in
      let f = vectors_few cl wl last in
      let t = x.few in
      omega arith

  pub copy_words_lem : {words : List ℕ} → words ≡ quad_from main at → words ≡ words_of_write main a cl wl first i
  unfolding words_of_write
  copy_words_lem ew = let q : a + 16 * vectors_before cl wl (suc i) - 16 * suc (vectors_before cl wl first) ≡ at = omega arith in rw q ew

pub even_vectors : {size address cl wl first last a : ℕ} {main mem : List ℕ} → CopyFits size address cl wl first last a main mem → cl ≡ wl
    → a + 16 * (last - first) ≤ length main
even_vectors {cl = cl} {wl} {first} {last} x e =
    let f : filling cl wl ≡ false = le-ltb cl wl (omega arith) in
    rw (plain_vectors cl wl first f, plain_vectors cl wl last f) at x.lies

-- where CL = WL, writes go to quadwords one after another
pub even_copied : (main : List ℕ) (size address cl wl first n a : ℕ) (mem : List ℕ) {m : List ℕ} → cl ≡ wl
    → m ≡ stores_from (λ (i : ℕ). (address + i) % size) (λ (i : ℕ). quad_from main (a + 16 * suc i - 16 * suc first)) n first mem
    → m ≡ stores_from (position_of size address cl wl) (words_of_write main a cl wl first) n first mem
unfolding words_of_write
even_copied main size address cl wl first n a mem e em =
    let f : filling cl wl ≡ false = le-ltb cl wl (omega arith) in
    em ∙ same_stores _ _ _ _ n first mem (λ j. rw (← e) (even_place size address cl j)) (λ j. rw (plain_vectors cl wl first f, plain_vectors cl wl (suc j) f))

-- The cycle of writes: which vectors they take, and how many are done once some vectors are whole.
use Rattle.std.proofs.Common.{◌≡◌, ℕ, zero, suc, ◌+◌, ◌-◌, ◌*◌, ◌/◌, ◌%◌, ◌<◌, ◌≤◌, min, Bool, true, false, ltb, leb, ◌⊎◌, ◌↔◌, refl, ◌∙◌, inl, inr, ⊎_elim, add-zero, mod-lt, mod-eq_of_lt, suc-mul, mul_comm, mul-zero, zero-mul, mul-suc, add-one, arith, ltb-false, ltb-true, lt-ltb, leb-false, leb-true}
use native.Mathlib.Nat.{mul-add-div_right, mul-add-mod_self_right, div-eq_of_lt, div-add-mod, zero-div, zero-mod}
use Rattle.fields.specs.Fields.{if}
use Rattle.fields.proofs.ChoiceLaws.{and_left, and_right, if_ind_by}
use Rattle.unpack_rules.specs.Position.{filling, fills, vectors_before, writes_done}

-- ---- a number by its cycle and its place in it

module _ {wl : ℕ} (q m : ℕ) (h : m < wl) where
  pub cycle_at : (q * wl + m) / wl ≡ q
  cycle_at = mul-add-div_right {m = wl} (omega arith) q m ∙ rw (div-eq_of_lt h, add-zero)

  pub place_at : (q * wl + m) % wl ≡ m
  place_at = mul-add-mod_self_right q wl m ∙ mod-eq_of_lt h

pub by_cycle : (wl i : ℕ) → i / wl * wl + i % wl ≡ i
by_cycle wl i = rw (mul_comm (i / wl) wl) (div-add-mod i wl)

-- ---- the vectors that writes take

module _ (cl wl : ℕ) where
  pub plain_vectors : (n : ℕ) → filling cl wl ≡ false → vectors_before cl wl n ≡ n
  unfolding vectors_before if
  plain_vectors n f = rw f

  vectors_at : (q m : ℕ) → m < wl → filling cl wl ≡ true → vectors_before cl wl (q * wl + m) ≡ cl * q + min m cl
  unfolding vectors_before if
  vectors_at q m h f = rw (f, cycle_at q m h, place_at q m h)

  -- the write after it takes one more, or fills
  next_at_lem : (q m : ℕ) → m < wl → filling cl wl ≡ true → vectors_before cl wl (suc (q * wl + m)) ≡ cl * q + min (suc m) cl
  next_at_lem q m h f = ⊎_elim inside last (split (suc m) wl)
    where
      split : (a b : ℕ) → (a < b) ⊎ (b ≤ a)
      split a b = go (ltb a b) refl
        where
          go : (t : Bool) → ltb a b ≡ t → (a < b) ⊎ (b ≤ a)
          go true e = inl (ltb-true a b e)
          go false e = inr (ltb-false a b e)

      inside : suc m < wl → vectors_before cl wl (suc (q * wl + m)) ≡ cl * q + min (suc m) cl
      inside l = let e : suc (q * wl + m) ≡ q * wl + suc m = omega arith in rw e (vectors_at q (suc m) l f)

      last : wl ≤ suc m → vectors_before cl wl (suc (q * wl + m)) ≡ cl * q + min (suc m) cl
      last l =
          let c = ltb-true cl wl f in
          let p : 0 < wl = omega arith in
          let s : suc q * wl ≡ q * wl + wl = suc-mul q wl in
          let e : suc (q * wl + m) ≡ suc q * wl + 0 = omega arith in
          let t : cl * suc q ≡ cl * q + cl = mul-suc cl q in
          rw e (vectors_at (suc q) 0 p f ∙ omega arith)

  module _ (w : 1 ≤ wl) (i : ℕ) where
    pub vectors_here : filling cl wl ≡ true → vectors_before cl wl i ≡ cl * (i / wl) + min (i % wl) cl
    vectors_here f = rw (by_cycle wl i) at (vectors_at (i / wl) (i % wl) (mod-lt i w) f)

    pub vectors_next : filling cl wl ≡ true → vectors_before cl wl (suc i) ≡ cl * (i / wl) + min (suc (i % wl)) cl
    vectors_next f = rw (by_cycle wl i) at (next_at_lem (i / wl) (i % wl) (mod-lt i w) f)

    -- a fill takes no vector
    pub fill_next : fills cl wl i ≡ true → vectors_before cl wl (i + 1) ≡ vectors_before cl wl i
    unfolding fills
    fill_next e =
        let f = and_left (filling cl wl) _ e in
        let h = leb-true cl (i % wl) (and_right (filling cl wl) _ e) in
        rw (add-one, vectors_here f, vectors_next f) (omega arith)

    -- any other write one
    pub payload_next : fills cl wl i ≡ false → vectors_before cl wl (i + 1) ≡ suc (vectors_before cl wl i)
    unfolding fills
    payload_next e = go (filling cl wl) refl
      where
        go : (t : Bool) → filling cl wl ≡ t → vectors_before cl wl (i + 1) ≡ suc (vectors_before cl wl i)
        go false f = rw (add-one, plain_vectors i f, plain_vectors (suc i) f)
        go true f = let h = leb-false cl (i % wl) (rw f at e) in rw (add-one, vectors_here f, vectors_next f) (omega arith)

    -- a fill comes after the CL writes that take a vector
    pub fill_late : fills cl wl i ≡ true → cl ≤ i % wl
    unfolding fills
    fill_late e = leb-true cl (i % wl) (and_right (filling cl wl) _ e)

    pub payload_early : fills cl wl i ≡ false → i % wl < cl
    unfolding fills
    payload_early e = go (filling cl wl) refl
      where
        go : (t : Bool) → filling cl wl ≡ t → i % wl < cl
        go false f = let l = ltb-false cl wl f in let m = mod-lt i w in omega arith
        go true f = leb-false cl (i % wl) (rw f at e)

    grows : vectors_before cl wl i ≤ vectors_before cl wl (suc i)
    grows = go (filling cl wl) refl
      where
        go : (t : Bool) → filling cl wl ≡ t → vectors_before cl wl i ≤ vectors_before cl wl (suc i)
        go true f = rw (vectors_here f, vectors_next f) (omega arith)
        go false f = rw (plain_vectors i f, plain_vectors (suc i) f) (omega arith)

  pub vectors_mono : 1 ≤ wl → (i n : ℕ) → vectors_before cl wl i ≤ vectors_before cl wl (i + n)
  vectors_mono w i zero = rw add-zero (omega arith)
  vectors_mono w i (suc n) =
      let e : i + suc n ≡ suc (i + n) = omega arith in
      let h = vectors_mono w i n in
      let g = grows w (i + n) in
      rw e (omega arith)

  pub vectors_none : vectors_before cl wl 0 ≡ 0
  unfolding vectors_before
  vectors_none = if_ind_by (λ (x : ℕ). x ≡ 0) (filling cl wl) (λ t. rw (zero-div, zero-mod, mul-zero) (omega arith)) (λ f. refl)

  -- no more than the writes
  pub vectors_few : (n : ℕ) → vectors_before cl wl n ≤ n
  vectors_few zero = rw vectors_none (omega arith)
  vectors_few (suc n) = go (vectors_few n) (filling cl wl) refl
    where
      go : vectors_before cl wl n ≤ n → (t : Bool) → filling cl wl ≡ t → vectors_before cl wl (suc n) ≤ suc n
      go h false f = rw (plain_vectors (suc n) f) (omega arith)
      go h true f =
          let l = ltb-true cl wl f in
          let a = vectors_here (omega arith) n f in
          let b = vectors_next (omega arith) n f in
          omega arith

  pub cycle_vectors : cl < wl → (n : ℕ) → cl * (n / wl) + min (n % wl) cl ≤ n
  cycle_vectors l n = rw (vectors_here (omega arith) n (lt-ltb cl wl l)) at (vectors_few n)

  -- none with CL 0, else some
  pub vectors_zero : cl ≡ 0 → 1 ≤ wl → (n : ℕ) → vectors_before cl wl n ≡ 0
  vectors_zero z w n =
      let f : filling cl wl ≡ true = lt-ltb cl wl (omega arith) in
      let e : cl * (n / wl) ≡ 0 = rw (z, zero-mul) in
      vectors_here w n f ∙ omega arith

  pub vectors_some : 1 ≤ cl → 1 ≤ wl → (n : ℕ) → 1 ≤ n → 1 ≤ vectors_before cl wl n
  vectors_some c w n h = go (filling cl wl) refl
    where
      go : (t : Bool) → filling cl wl ≡ t → 1 ≤ vectors_before cl wl n
      go false f = rw (plain_vectors n f) h
      go true f =
          let a : vectors_before cl wl 1 ≡ cl * (0 / wl) + min (suc (0 % wl)) cl = vectors_next w 0 f in
          let q : 1 + (n - 1) ≡ n = omega arith in
          let m = rw q at (vectors_mono w 1 (n - 1)) in
          let z = rw (zero-mod) at a in
          omega arith

-- ---- the writes done

module _ (cl wl : ℕ) (w : 1 ≤ wl) where
  pub done_few : (v n : ℕ) → writes_done cl wl v n ≤ n
  unfolding writes_done
  done_few v zero = omega arith
  done_few v (suc n) =
      let h = done_few v n in
      if_ind_by (λ (x : ℕ). x ≤ suc n) (leb (vectors_before cl wl (suc n)) v) (λ t. omega arith) (λ f. omega arith)

  -- document 02's sentence on fills: write i is done once v vectors are whole exactly if the vectors up to it are among them
  pub done_exactly : (v n i : ℕ) → i < n → (i < writes_done cl wl v n) ↔ (vectors_before cl wl (suc i) ≤ v)
  unfolding writes_done
  done_exactly v zero i h = absurd (omega arith)
  done_exactly v (suc n) i h =
      if_ind_by (λ (x : ℕ). (i < x) ↔ (vectors_before cl wl (suc i) ≤ v)) (leb (vectors_before cl wl (suc n)) v) all_done
      (λ f. some_done (done_exactly v n i) (leb-false _ _ f))
    where
      all_done : leb (vectors_before cl wl (suc n)) v ≡ true → (i < suc n) ↔ (vectors_before cl wl (suc i) ≤ v)
      all_done t =
          let l = leb-true (vectors_before cl wl (suc n)) v t in
          let e : suc i + (n - i) ≡ suc n = omega arith in
          let m = rw e at (vectors_mono cl wl w (suc i) (n - i)) in ((λ a. omega arith), (λ b. h))

      some_done : (i < n → (i < writes_done cl wl v n) ↔ (vectors_before cl wl (suc i) ≤ v)) → v < vectors_before cl wl (suc n)
          → (i < writes_done cl wl v n) ↔ (vectors_before cl wl (suc i) ≤ v)
      some_done before l = go (ltb i n) refl
        where
          go : (t : Bool) → ltb i n ≡ t → (i < writes_done cl wl v n) ↔ (vectors_before cl wl (suc i) ≤ v)
          go true e = before (ltb-true i n e)
          go false e =
              let b = ltb-false i n e in
              let z : i ≡ n = omega arith in
              let f = done_few v n in ((λ a. absurd (omega arith)), (λ c. absurd (let d : vectors_before cl wl (suc n) ≤ v = rw z at c in omega arith)))

  -- so a number of writes is known by its vectors and those of the next write
  pub done_is : (v n c : ℕ) → c ≤ n → vectors_before cl wl c ≤ v → (c < n → v < vectors_before cl wl (suc c)) → writes_done cl wl v n ≡ c
  done_is v n c h b a =
      let f = done_few v n in
      let up = not_more (ltb c (writes_done cl wl v n)) refl in
      let low = not_less c h b in
      omega arith
    where
      not_more : (t : Bool) → ltb c (writes_done cl wl v n) ≡ t → writes_done cl wl v n ≤ c
      not_more false e = ltb-false c (writes_done cl wl v n) e
      not_more true e =
          let l = ltb-true c (writes_done cl wl v n) e in
          let f = done_few v n in
          let p : c < n = omega arith in
          let x = (done_exactly v n c p).0 l in
          let y = a p in
          absurd (omega arith)

      not_less : (d : ℕ) → d ≤ n → vectors_before cl wl d ≤ v → d ≤ writes_done cl wl v n
      not_less zero p q = omega arith
      not_less (suc d) p q = (done_exactly v n d p).1 q

  pub done_mono : (v u n : ℕ) → v ≤ u → writes_done cl wl v n ≤ writes_done cl wl u n
  done_mono v u n h = go (ltb (writes_done cl wl u n) (writes_done cl wl v n)) refl
    where
      go : (t : Bool) → ltb (writes_done cl wl u n) (writes_done cl wl v n) ≡ t → writes_done cl wl v n ≤ writes_done cl wl u n
      go false e = ltb-false (writes_done cl wl u n) (writes_done cl wl v n) e
      go true e =
          let l = ltb-true (writes_done cl wl u n) (writes_done cl wl v n) e in
          let f = done_few v n in
          let p : writes_done cl wl u n < n = omega arith in
          let x = (done_exactly v n (writes_done cl wl u n) p).0 l in
          let y = (done_exactly u n (writes_done cl wl u n) p).1 (omega arith) in
          absurd (omega arith)

  -- without filling each vector is a write
  pub plain_done : filling cl wl ≡ false → (v n : ℕ) → v ≤ n → writes_done cl wl v n ≡ v
  plain_done f v n h =
      done_is v n v h (rw (plain_vectors cl wl v f) (omega arith)) (λ l. rw (plain_vectors cl wl (suc v) f) (omega arith))

  -- where writes fill: whole cycles, and the vectors of the last one
  pub filling_done : filling cl wl ≡ true → 1 ≤ cl → (v n : ℕ) → writes_done cl wl v n ≡ min n (v / cl * wl + v % cl)
  filling_done f h v n = go (ltb n x) refl
    where
      x : ℕ
      x = v / cl * wl + v % cl

      r : v % cl < cl
      r = mod-lt v h

      inside : v % cl < wl
      inside = let l = ltb-true cl wl f in let s = r in omega arith

      here : vectors_before cl wl x ≡ v
      here =
          let s = r in
          let m : min (v % cl) cl ≡ v % cl = omega arith in
          vectors_at cl wl (v / cl) (v % cl) inside f ∙ rw m (div-add-mod v cl)

      after : v < vectors_before cl wl (suc x)
      after =
          let s = r in
          let m : min (suc (v % cl)) cl ≡ suc (v % cl) = omega arith in
          let d = div-add-mod v cl in
          let e = next_at_lem cl wl (v / cl) (v % cl) inside f in
          omega arith

      go : (t : Bool) → ltb n x ≡ t → writes_done cl wl v n ≡ min n x
      go true e =
          let l = ltb-true n x e in
          let q : n + (x - n) ≡ x = omega arith in
          let m = rw (q, here) at (vectors_mono cl wl w n (x - n)) in
          done_is v n n (omega arith) m (λ a. absurd (omega arith)) ∙ omega arith
      go false e =
          let l = ltb-false n x e in
          let a = after in
          done_is v n x l (rw here (omega arith)) (λ b. a) ∙ omega arith

-- ---- a vector's writes

module _ (cl wl n : ℕ) (w : 1 ≤ wl) where
  -- the writes done take no more vectors than are whole
  pub done_below : (v : ℕ) → vectors_before cl wl (writes_done cl wl v n) ≤ v
  done_below v = go (writes_done cl wl v n) refl
    where
      go : (d : ℕ) → writes_done cl wl v n ≡ d → vectors_before cl wl d ≤ v
      go zero e = rw (vectors_none cl wl) (omega arith)
      go (suc d) e =
          let f = done_few cl wl w v n in
          (done_exactly cl wl w v n d (omega arith)).0 (omega arith)

  -- where more vectors come, they take all that are, and the next write takes the next
  pub record Done (v : ℕ) : Type 0 where
    pub few : writes_done cl wl v n < n
    pub here : vectors_before cl wl (writes_done cl wl v n) ≡ v
    pub next : vectors_before cl wl (suc (writes_done cl wl v n)) ≡ suc v

  one_more : (i : ℕ) → vectors_before cl wl (suc i) ≤ suc (vectors_before cl wl i)
  one_more i = go (fills cl wl i) refl
    where
      go : (t : Bool) → fills cl wl i ≡ t → vectors_before cl wl (suc i) ≤ suc (vectors_before cl wl i)
      go true e = let q = rw add-one at (fill_next cl wl w i e) in omega arith
      go false e = let q = rw add-one at (payload_next cl wl w i e) in omega arith

  pub done_vectors : (v : ℕ) → v < vectors_before cl wl n → Done v
  done_vectors v h =
      let b = done_below v in
      let f = fewer (ltb (writes_done cl wl v n) n) refl in
      let a = after f (ltb v (vectors_before cl wl (suc (writes_done cl wl v n)))) refl in
      let o = one_more (writes_done cl wl v n) in
      record { few = f; here = omega arith; next = omega arith }
    where
      fewer : (t : Bool) → ltb (writes_done cl wl v n) n ≡ t → writes_done cl wl v n < n
      fewer true e = ltb-true _ _ e
      fewer false e =
          let l = ltb-false (writes_done cl wl v n) n e in
          let f = done_few cl wl w v n in
          let q : writes_done cl wl v n ≡ n = omega arith in
          let b = rw q at (done_below v) in
          absurd (omega arith)

      after : writes_done cl wl v n < n → (t : Bool) → ltb v (vectors_before cl wl (suc (writes_done cl wl v n))) ≡ t
          → v < vectors_before cl wl (suc (writes_done cl wl v n))
      after f true e = ltb-true _ _ e
      after f false e =
          let d = (done_exactly cl wl w v n (writes_done cl wl v n) f).1 (ltb-false _ _ e) in
          absurd (omega arith)

  -- and more of them more writes
  pub done_more : (v m : ℕ) → v < vectors_before cl wl n → 1 ≤ m → writes_done cl wl v n < writes_done cl wl (v + m) n
  done_more v m h l =
      let d = done_vectors v h in
      let x = d.next in
      (done_exactly cl wl w (v + m) n (writes_done cl wl v n) d.few).1 (omega arith)

pub done_most : (cl wl v n : ℕ) {last : ℕ} → 1 ≤ wl → n ≤ 256 → last ≡ writes_done cl wl v n → last ≤ 256
done_most cl wl v n w h e = let f = done_few cl wl w v n in omega arith

-- The step from what its parts give, and its tests as facts.
use Rattle.std.proofs.Common.{◌≡◌, ℕ, suc, ◌+◌, ◌-◌, ◌*◌, ◌%◌, ◌<◌, ◌≤◌, Bool, true, false, not, eqb, leb, List, [], length, Option, Some, None, ap, sym, refl, ◌∙◌, le_refl, zero-mul, add-one, arith, eqb-true, le-leb, leb-false, leb-true}
use borrow.Author.Tests.{eqb-false, not-true}
use Rattle.std.proofs.lemmas.Bool.{false≢true}
use Rattle.fields.specs.Fields.{if}
use Rattle.fields.proofs.ChoiceLaws.{and_left, and_right, if_ind_by}
use Rattle.unpack_rules.specs.declared.Format.{Format}
use Rattle.unpack_rules.specs.declared.Unpacking.{Unpacking}
use Rattle.unpack_rules.specs.declared.Registers.{Registers}
use Rattle.unpack_rules.specs.Payload.{payload_words, whole_vectors}
use Rattle.unpack_rules.specs.Position.{addresses, address_most, vectors_before, writes_done}
use Rattle.unpack_rules.specs.Write.{Written, written, writes_from}
use Rattle.unpack_rules.specs.Range.{cycle_refused, cycle_in_range, payload_for, unpacking_in_range, CycleFits, UnpackingFits}
use Rattle.unpack_rules.specs.Inner.{MemoryFits, WordFits, VectorIn, WriteIn, CompletedFits, completed_writes, UnfedFits}
use Rattle.unpack_rules.specs.Step.{count_of, unpacking_of, taken_words, acting, held_vector, done_after, word_of, unpack_word, acceptable, Left, left, left_of, take_of, unfed_writes, unfed_acceptable, unfed_of}
use Rattle.unpack_rules.proofs.PayloadLaws.{whole_most, vector_in_lem, payload_most, payload_some}
use Rattle.unpack_rules.proofs.CycleLaws.{vectors_few, vectors_zero, vectors_some, done_few, done_exactly}
use Rattle.unpack_rules.proofs.WriteLaws.{writes_none}

pub count_range : (num : ℕ) → (1 ≤ count_of num) × (count_of num ≤ 256)
unfolding count_of
count_range num =
    if_ind_by (λ (n : ℕ). (1 ≤ n) × (n ≤ 256)) (eqb (num % 256) 0) (λ e. (omega arith, omega arith))
    (λ e. let z = eqb-false (num % 256) 0 e in (omega arith, omega arith))

pub count_few : (num : ℕ) → count_of num ≤ 256
count_few num = (count_range num).1

-- ---- tests as facts

-- a cycle that rule 22 accepts has a write
cycle_some : (cl wl : ℕ) → cycle_refused cl wl ≡ false → 1 ≤ wl
unfolding cycle_refused
cycle_some cl wl h = let z = eqb-false wl 0 h in omega arith

pub accepted_cycle : (cl wl : ℕ) → cycle_refused cl wl ≡ false → cl ≤ 255 → wl ≤ 255 → cycle_in_range cl wl ≡ true
unfolding cycle_in_range
accepted_cycle cl wl h m w = rw (h, le-leb cl 255 m, le-leb wl 255 w)

pub cycle_fits : (cl wl : ℕ) → cycle_in_range cl wl ≡ true → CycleFits cl wl
unfolding cycle_in_range
cycle_fits cl wl h =
    let a = not-true _ (and_left _ _ h) in
    let h' = and_right (not (cycle_refused cl wl)) _ h in
    record {
      accepted = a;
      some = cycle_some cl wl a;
      most = leb-true cl 255 (and_left _ _ h');
      wide = leb-true wl 255 (and_right (leb cl 255) _ h');
    }

pub fits_cycle : (cl wl : ℕ) → CycleFits cl wl → cycle_in_range cl wl ≡ true
fits_cycle cl wl f = accepted_cycle cl wl f.accepted f.most f.wide

pub unpacking_fits : (f : Format) (cl wl : ℕ) (u : Unpacking) → unpacking_in_range f cl wl u ≡ true → UnpackingFits f cl wl u
unfolding unpacking_in_range
unpacking_fits f cl wl u h =
    let h1 = and_right (leb u.address address_most) _ h in
    let h2 = and_right (leb 1 u.count) _ h1 in
    let h3 = and_right (leb u.count 256) _ h2 in
    record {
      inside = leb-true u.address address_most (and_left _ _ h);
      some = leb-true 1 u.count (and_left _ _ h1);
      few = leb-true u.count 256 (and_left _ _ h2);
      left = leb-true 1 u.due (and_left _ _ h3);
      most = leb-true u.due (payload_for f cl wl u.count) (and_right (leb 1 u.due) _ h3);
    }

pub fits_unpacking : (f : Format) (cl wl : ℕ) (u : Unpacking) → UnpackingFits f cl wl u → unpacking_in_range f cl wl u ≡ true
unfolding unpacking_in_range
fits_unpacking f cl wl u x =
    rw (le-leb u.address address_most x.inside, le-leb 1 u.count x.some, le-leb u.count 256 x.few, le-leb 1 u.due x.left, le-leb u.due (payload_for f cl wl u.count) x.most)

pub record Acceptable (size : ℕ) (f : Format) (u : Unpacking) (r : Registers) (mem : List ℕ) : Type 0 where
  pub memory : MemoryFits size mem
  pub cycle : CycleFits r.cl r.wl
  pub unpacking : UnpackingFits f r.cl r.wl u

pub acceptable_fits : (size : ℕ) (f : Format) (u : Unpacking) (r : Registers) (mem : List ℕ) → acceptable size f u r mem ≡ true
    → Acceptable size f u r mem
unfolding acceptable
acceptable_fits size f u r mem h =
    let h1 = and_right (leb 1 size) _ h in
    let h2 = and_right (leb size addresses) _ h1 in
    let h3 = and_right (eqb (length mem) (4 * size)) _ h2 in
    record {
      memory =
          record {
            some = leb-true 1 size (and_left _ _ h);
            most = leb-true size addresses (and_left _ _ h1);
            long = eqb-true (length mem) (4 * size) (and_left _ _ h2);
          };
      cycle = cycle_fits r.cl r.wl (and_left _ _ h3);
      unpacking = unpacking_fits f r.cl r.wl u (and_right (cycle_in_range r.cl r.wl) _ h3);
    }

-- ---- the step

pub payload_few : (f : Format) (cl wl n : ℕ) → n ≤ 256 → payload_for f cl wl n ≤ 1024
payload_few f cl wl n h = let v = vectors_few cl wl n in payload_most f (vectors_before cl wl n) (omega arith)

pub taken_few : (f : Format) (r : Registers) (u : Unpacking) → UnpackingFits f r.cl r.wl u → taken_words f r u < 1024
unfolding taken_words
taken_few f r u x =
    let m = payload_few f r.cl r.wl u.count x.few in
    let l = x.left in
    let o = x.most in
    omega arith

-- the words taken, from the vectors and the words of the whole payload
pub taken_is : (f : Format) (r : Registers) (u : Unpacking) {v n : ℕ} → v ≡ vectors_before r.cl r.wl u.count → n ≡ payload_words f v
    → n - u.due ≡ taken_words f r u
unfolding taken_words
taken_is f r u ev en = rw (en, ev)

-- where payload is due, CL is not 0
pub due_cycle : (f : Format) (cl wl : ℕ) (u : Unpacking) → 1 ≤ wl → UnpackingFits f cl wl u → 1 ≤ cl
unfolding payload_words
due_cycle f cl wl u w x = go (eqb cl 0) refl
  where
    go : (b : Bool) → eqb cl 0 ≡ b → 1 ≤ cl
    go false e = let n = eqb-false cl 0 e in omega arith
    go true e =
        let z = vectors_zero cl wl (eqb-true cl 0 e) w u.count in
        let m = rw (z, zero-mul) at x.most in
        let l = x.left in
        absurd (omega arith)

pub completed_fits : (size : ℕ) (f : Format) (u : Unpacking) (r : Registers) (mem : List ℕ) {k v from to : ℕ}
    → CycleFits r.cl r.wl → UnpackingFits f r.cl r.wl u → MemoryFits size mem
    → k ≡ taken_words f r u → v ≡ vectors_before r.cl r.wl u.count
    → from ≡ whole_vectors f v k → to ≡ whole_vectors f v (k + 1)
    → CompletedFits size f u r k from to mem
completed_fits size f u r mem c x m ek ev ef et =
    let t = taken_few f r u x in
    record { cycle = c; memory = m; unpacking = x; words = omega arith; first = ef ∙ rw ev; last = et ∙ rw ev }

pub word_taken : (size : ℕ) (f : Format) (u : Unpacking) (r : Registers) (word : ℕ) (w : Written) {k v from to : ℕ} {o : Written}
    → k ≡ taken_words f r u → v ≡ vectors_before r.cl r.wl u.count
    → from ≡ whole_vectors f v k → to ≡ whole_vectors f v (k + 1)
    → o ≡ completed_writes size f u r word k from to w → o ≡ unpack_word size f u r word w
unfolding unpack_word word_of completed_writes done_after
word_taken size f u r word w ek ev ef et e = e ∙ rw (et, ef, ev, ek)

-- a word that completes no vector
pub none_completed : (size : ℕ) (f : Format) (u : Unpacking) (r : Registers) (word k from to : ℕ) (w : Written) → from ≡ to
    → w ≡ completed_writes size f u r word k from to w
unfolding completed_writes
none_completed size f u r word k from to w e =
    sym (rw e (writes_none size u.address (acting f u r) (held_vector f u word k) _ _ (le_refl _) w))

-- a write that is done with word k and not before it is of a vector that the word completes
module _ (f : Format) (cl wl n k i : ℕ) (c : 1 ≤ wl) where
  pub write_in : writes_done cl wl (whole_vectors f (vectors_before cl wl n) k) n ≤ i
      → i < writes_done cl wl (whole_vectors f (vectors_before cl wl n) (k + 1)) n → WriteIn f cl wl k i
  write_in lo hi =
      let a = done_few cl wl c (whole_vectors f (vectors_before cl wl n) (k + 1)) n in
      let up = (done_exactly cl wl c (whole_vectors f (vectors_before cl wl n) (k + 1)) n i (omega arith)).0 hi in
      let low = after (omega arith) (leb (vectors_before cl wl (suc i)) (whole_vectors f (vectors_before cl wl n) k)) refl in
      record {
        vector = vectors_before cl wl (suc i) - 1;
        is = omega arith;
        ends = vector_in_lem f (vectors_before cl wl n) k (vectors_before cl wl (suc i) - 1) (omega arith) (omega arith);
      }
    where
      after : i < n → (b : Bool) → leb (vectors_before cl wl (suc i)) (whole_vectors f (vectors_before cl wl n) k) ≡ b
          → whole_vectors f (vectors_before cl wl n) k < vectors_before cl wl (suc i)
      after l false e = leb-false _ _ e
      after l true e =
          let d = (done_exactly cl wl c (whole_vectors f (vectors_before cl wl n) k) n i l).1 (leb-true _ _ e) in
          absurd (omega arith)

-- the number of its vector, from the vectors that the writes up to it take
module _ {f : Format} {cl wl k i : ℕ} (y : WriteIn f cl wl k i) {v : ℕ} (e : v ≡ vectors_before cl wl (i + 1)) where
  pub number_up : vectors_before cl wl (suc i) ≡ suc (v - 1)
  number_up =
      let q : v ≡ suc y.vector = e ∙ rw add-one y.is in
      y.is ∙ omega arith

  pub number_some : 1 ≤ v
  number_some = let q : v ≡ suc y.vector = e ∙ rw add-one y.is in omega arith

  pub number_in : VectorIn f k (v - 1)
  number_in =
      let q : v ≡ suc y.vector = e ∙ rw add-one y.is in
      let z : v - 1 ≡ y.vector = omega arith in
      rw z y.ends

-- the loops' input: the writes of the vectors that a word completes
module _ {size : ℕ} {f : Format} {u : Unpacking} {r : Registers} {k from to : ℕ} {mem : List ℕ} (x : CompletedFits size f u r k from to mem) where
  pub writes_fit : {first last : ℕ} {s : Registers} → first ≡ writes_done r.cl r.wl from u.count → last ≡ writes_done r.cl r.wl to u.count
      → s ≡ acting f u r → WordFits size f u s k first last mem
  unfolding acting
  writes_fit {first} {last} ef el es =
      rw es
      (let d = done_few r.cl r.wl x.cycle.some to u.count in
      let c = x.unpacking.few in
      record {
        cycle = x.cycle;
        memory = x.memory;
        inside = x.unpacking.inside;
        few = omega arith;
        words = x.words;
        each = λ i lo hi. write_in f r.cl r.wl u.count k i x.cycle.some (rw (← x.first, ← ef) lo) (rw (← x.last, ← el) hi);
      })

  whole_below : (k : ℕ) → whole_vectors f (vectors_before r.cl r.wl u.count) k ≤ u.count
  whole_below k =
      let m = whole_most f (vectors_before r.cl r.wl u.count) k in
      let v = vectors_few r.cl r.wl u.count in
      omega arith

  -- the vectors' numbers, as `writes_done` takes them
  pub vectors_small : (from ≤ u.count) × (to ≤ u.count) × (from ≤ 256) × (to ≤ 256)
  vectors_small =
      let a : from ≤ u.count = rw x.first (whole_below k) in
      let b : to ≤ u.count = rw x.last (whole_below (k + 1)) in
      let c = x.unpacking.few in
      (a, b, omega arith, omega arith)

  -- where payload is due, CL is not 0
  pub cycle_taken : 1 ≤ r.cl
  cycle_taken = due_cycle f r.cl r.wl u x.cycle.some x.unpacking

pub completed_by : (size : ℕ) (f : Format) (u : Unpacking) (r : Registers) (word k from to : ℕ) (w : Written) {first last : ℕ} {s : Registers} {o : Written}
    → first ≡ writes_done r.cl r.wl from u.count → last ≡ writes_done r.cl r.wl to u.count → s ≡ acting f u r
    → o ≡ writes_from size u.address s (held_vector f u word k) (last - first) first w → o ≡ completed_writes size f u r word k from to w
unfolding completed_writes
completed_by size f u r word k from to w ef el es e = e ∙ rw (ef, el, es)

-- after a write of the same length
pub word_fits_again : {size : ℕ} {f : Format} {u : Unpacking} {r : Registers} {k from to : ℕ} {mem m : List ℕ} → length m ≡ length mem
    → WordFits size f u r k from to mem → WordFits size f u r k from to m
word_fits_again e w =
    record {
      cycle = w.cycle;
      memory = record { some = w.memory.some; most = w.memory.most; long = e ∙ w.memory.long };
      inside = w.inside;
      few = w.few;
      words = w.words;
      each = w.each;
    }

-- an accepted word
pub taken_as : (size : ℕ) (f : Format) (u : Unpacking) (r : Registers) (word : ℕ) (row mem : List ℕ) → acceptable size f u r mem ≡ true
    → {rs m : List ℕ} → written rs m ≡ unpack_word size f u r word (written row mem)
    → ◌≡◌ {A = Left} (record { accepted = true; row = rs; mem = m }) (take_of size f u r word row mem)
unfolding take_of if
taken_as size f u r word row mem h e = rw (h, ← e)

-- a call that accepts returns the new ROW
pub left_some : (row : List ℕ) (o : Option (List ℕ)) {m : List ℕ} {w : Written} → left row o m ≡ left_of w → (o ≡ Some w.row) × (m ≡ w.mem)
left_some row None e = let f = ap (λ (l : Left). l.accepted) e in absurd (false≢true f)
left_some row (Some s) e = (ap (λ (l : Left). Some l.row) e, ap (λ (l : Left). l.mem) e)

-- an UNPACK code whose whole payload is due is in range
pub begun_fits : (f : Format) (cl wl a num : ℕ) (usn masked i : Bool) → 1 ≤ cl → 1 ≤ wl → UnpackingFits f cl wl (unpacking_of f cl wl a num usn masked i)
unfolding unpacking_of
begun_fits f cl wl a num usn masked i c w =
    let n = count_range num in
    let v = vectors_some cl wl c w (count_of num) n.0 in
    record { inside = omega arith; some = n.0; few = n.1; left = payload_some f (vectors_before cl wl (count_of num)) v; most = le_refl _ }

-- ---- a code with CL 0

pub record Unfed (size : ℕ) (f : Format) (u : Unpacking) (r : Registers) (mem : List ℕ) : Type 0 where
  pub fits : UnfedFits size u (acting f u r) mem

pub unfed_fits : (size : ℕ) (f : Format) (u : Unpacking) (r : Registers) (mem : List ℕ) → unfed_acceptable size u r mem ≡ true → Unfed size f u r mem
unfolding unfed_acceptable acting
unfed_fits size f u r mem h =
    let h1 = and_right (leb 1 size) _ h in
    let h2 = and_right (leb size addresses) _ h1 in
    let h3 = and_right (eqb (length mem) (4 * size)) _ h2 in
    let h4 = and_right (cycle_in_range r.cl r.wl) _ h3 in
    let h5 = and_right (eqb r.cl 0) _ h4 in
    record {
      fits =
          record {
            cycle = cycle_fits r.cl r.wl (and_left _ _ h3);
            none = eqb-true r.cl 0 (and_left _ _ h4);
            memory =
                record {
                  some = leb-true 1 size (and_left _ _ h);
                  most = leb-true size addresses (and_left _ _ h1);
                  long = eqb-true (length mem) (4 * size) (and_left _ _ h2);
                };
            inside = leb-true u.address address_most (and_left _ _ h5);
            few = leb-true u.count 256 (and_right (leb u.address address_most) _ h5);
          };
    }

pub unfed_as : (size : ℕ) (f : Format) (u : Unpacking) (r : Registers) (row mem : List ℕ) → unfed_acceptable size u r mem ≡ true
    → {s : Registers} {rs m : List ℕ} → s ≡ acting f u r → written rs m ≡ writes_from size u.address s (λ j. []) u.count 0 (written row mem)
    → ◌≡◌ {A = Left} (record { accepted = true; row = rs; mem = m }) (unfed_of size f u r row mem)
unfolding unfed_of unfed_writes if
unfed_as size f u r row mem h es e = rw (h, ← es, ← e)

-- after a write of the same length
pub unfed_again : {size : ℕ} {u : Unpacking} {r : Registers} {mem m : List ℕ} → length m ≡ length mem → UnfedFits size u r mem → UnfedFits size u r m
unfed_again e x =
    record {
      cycle = x.cycle;
      none = x.none;
      memory = record { some = x.memory.some; most = x.memory.most; long = e ∙ x.memory.long };
      inside = x.inside;
      few = x.few;
    }

-- with CL 0 no write takes a vector
pub unfed_vectors : {size : ℕ} {u : Unpacking} {r : Registers} {mem : List ℕ} → UnfedFits size u r mem → (n : ℕ)
    → vectors_before r.cl r.wl n ≡ 0
unfed_vectors {r = r} x n = vectors_zero r.cl r.wl x.none x.cycle.some n

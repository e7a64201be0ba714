-- Payload words of main memory taken one after another: one more of them.
use Rattle.std.proofs.Common.{◌≡◌, ℕ, suc, ◌+◌, ◌-◌, ◌*◌, ◌<◌, ◌≤◌, true, ltb, leb, List, Option, Some, None, ap, sym, refl, arith, ltb-true, leb-true}
use Rattle.std.proofs.lemmas.Bool.{false≢true}
use Rattle.fields.proofs.ChoiceLaws.{and_left, and_right}
use Rattle.fields.specs.Memory.{word_at}
use Rattle.unpack_rules.specs.declared.Format.{Format}
use Rattle.unpack_rules.specs.declared.Unpacking.{Unpacking}
use Rattle.unpack_rules.specs.declared.Registers.{Registers}
use Rattle.unpack_rules.specs.Payload.{whole_vectors}
use Rattle.unpack_rules.specs.Write.{Written}
use Rattle.unpack_rules.specs.Range.{UnpackingFits}
use Rattle.unpack_rules.specs.Step.{taken_words, holds, unpack_word, acceptable}
use Rattle.unpack_rules.specs.declared.WordsTaken.{WordsTaken}
use Rattle.unpack_rules.specs.Whole.{take_words, held_after, words_from, WordsLeft, words_left, taken_by, words_acceptable}

-- a payload word before the last leaves it in range
pub unpacking_on : {f : Format} {cl wl : ℕ} {u : Unpacking} (word : ℕ) → UnpackingFits f cl wl u → 1 < u.due → UnpackingFits f cl wl (holds u word)
unpacking_on word x h = let m = x.most in record { inside = x.inside; some = x.some; few = x.few; left = omega arith; most = omega arith }

-- and makes one word more taken
pub taken_on : (f : Format) (r : Registers) (u : Unpacking) (word : ℕ) → UnpackingFits f r.cl r.wl u
    → taken_words f r (holds u word) ≡ taken_words f r u + 1
unfolding taken_words
taken_on f r u word x = let m = x.most in let l = x.left in omega arith

pub whole_on : (f : Format) (v t k : ℕ) {to : ℕ} → to ≡ whole_vectors f v (t + k + 1) → to ≡ whole_vectors f v (t + (k + 1))
whole_on f v t k e = let q : t + (k + 1) ≡ t + k + 1 = omega arith in rw q e

-- a call's tests as facts
pub record WordsAccepted (size : ℕ) (f : Format) (u : Unpacking) (r : Registers) (a n : ℕ) (mem : List ℕ) : Type 0 where
  pub near : a ≤ 1048576
  pub few : n < u.due
  pub accepted : acceptable size f u r mem ≡ true

pub words_accepted : (size : ℕ) (f : Format) (u : Unpacking) (r : Registers) (a n : ℕ) (mem : List ℕ) → words_acceptable size f u r a n mem ≡ true
    → WordsAccepted size f u r a n mem
unfolding words_acceptable
words_accepted size f u r a n mem h =
    let h1 = and_right (leb a 1048576) _ h in
    record { near = leb-true a 1048576 (and_left _ _ h); few = ltb-true n u.due (and_left _ _ h1); accepted = and_right (ltb n u.due) _ h1 }

module _ (size : ℕ) (f : Format) (r : Registers) (main : List ℕ) where
  words_then : (u : Unpacking) (a n : ℕ) (w : Written)
      → taken_by size f u r (words_from main a (suc n)) w
      ≡ taken_by size f (holds u (word_at main a)) r (words_from main (a + 4) n) (unpack_word size f u r (word_at main a) w)
  unfolding taken_by words_from take_words held_after
  words_then u a n w = refl

  -- word k of n
  pub words_more : (u : Unpacking) (a k n : ℕ) (w : Written) {word : ℕ} {o : Written} → k < n → word ≡ word_at main (a + 4 * k)
      → o ≡ unpack_word size f u r word w
      → taken_by size f (holds u word) r (words_from main (a + 4 * (k + 1)) (n - (k + 1))) o ≡ taken_by size f u r (words_from main (a + 4 * k) (n - k)) w
  words_more u a k n w h ew eo =
      let b : a + 4 * (k + 1) ≡ a + 4 * k + 4 = omega arith in
      let m : n - k ≡ suc (n - (k + 1)) = omega arith in
      rw (b, m, eo, ew) (sym (words_then u (a + 4 * k) (n - (k + 1)) w))

  -- no word is left
  pub words_none : (u : Unpacking) (a k n : ℕ) (w : Written) → n ≤ k
      → taken_by size f u r (words_from main a (n - k)) w ≡ record { accepted = true; row = w.row; mem = w.mem; rest = u }
  unfolding taken_by words_from take_words held_after
  words_none u a k n w h = let z : n - k ≡ 0 = omega arith in rw z

  pub words_zero : (u : Unpacking) (a : ℕ) (w : Written) {n : ℕ} → n ≡ 0
      → record { accepted = true; row = w.row; mem = w.mem; rest = u } ≡ taken_by size f u r (words_from main a n) w
  unfolding taken_by words_from take_words held_after
  words_zero u a w e = rw e

-- a call that accepts returns the new ROW and the UNPACK that waits on
pub words_some : (size : ℕ) (f : Format) (r : Registers) (u : Unpacking) (ws : List ℕ) (w : Written) (row : List ℕ) (o : Option WordsTaken) {m : List ℕ}
    → words_left u row o m ≡ taken_by size f u r ws w
    → (o ≡ Some (record { row = (take_words size f u r ws w).row; rest = held_after u ws })) × (m ≡ (take_words size f u r ws w).mem)
unfolding taken_by
words_some size f r u ws w row None e = let f = ap (λ (l : WordsLeft). l.accepted) e in absurd (false≢true f)
words_some size f r u ws w row (Some s) e = (ap (λ (l : WordsLeft). Some (record { row = l.row; rest = l.rest })) e, ap (λ (l : WordsLeft). l.mem) e)

-- A word inside a buffer, and one that is not; words sent one after another.
use Rattle.std.proofs.Common.{◌≡◌, refl, ap, sym, ◌∙◌, List, [], ◌∷◌, ◌++◌, ℕ, ◌+◌, ◌-◌, ◌/◌, ◌%◌, ◌^◌, ◌<◌, ◌≤◌, suc, length, get_or, take, drop, drop-cons, append_assoc, add-one, arith}
use Rattle.std.specs.Int.{w32, to_le_bytes}
use borrow.Author.Tests.{le-leb, lt-leb}
use borrow.Rule.Slice.PartMut.{put_mid, Post-is}
use Rattle.std.specs.List.{flat_map}
use lib.Seq.{sets-eq}
use Rattle.wire.specs.declared.Output.{Output}
use Rattle.wire.specs.Words.{if, whole_at, word_at, with_word, one, sent_all}

module _ (b : List ℕ) (a : ℕ) where
  pub word_out : length b < a + 4 → 0 ≡ word_at b a
  unfolding word_at if
  word_out h = rw (lt-leb (a + 4) (length b) h)

  pub word_in : a + 4 ≤ length b → whole_at b a ≡ word_at b a
  unfolding word_at if
  word_in h = rw (le-leb (a + 4) (length b) h)

  pub stored_out : (x : ℕ) → length b < a + 4 → b ≡ with_word b a x
  unfolding with_word if
  stored_out x h = rw (lt-leb (a + 4) (length b) h)

  pub stored_in : (x : ℕ) → x < 2 ^ 32 → a + 4 ≤ length b → put_mid a (a + 4 - a) b (to_le_bytes w32 x) ≡ with_word b a x
  unfolding with_word if
  stored_in x small h =
      let top : x / 16777216 % 256 ≡ x / 16777216 = omega arith in
      let one : a + 1 ≡ suc a = omega arith in
      let two : a + 2 ≡ suc (suc a) = omega arith in
      let three : a + 3 ≡ suc (suc (suc a)) = omega arith in
      rw (le-leb (a + 4) (length b) h, Post-is a (a + 4) b (omega arith), one, two, three, top)
      (rw top at (sym (sets-eq (to_le_bytes w32 x) b a h ∙ append_assoc (take a b) (to_le_bytes w32 x) (drop (a + 4) b))))

-- words sent after words
pub sent_joined : (xs ys out : List ℕ) (at : ℕ) → sent_all (sent_all out at xs).out (sent_all out at xs).at ys ≡ sent_all out at (xs ++ ys)
sent_joined [] ys out at = refl
sent_joined (x ∷ xs) ys out at = sent_joined xs ys _ _

-- one number more
pub sent_more : {A : Type 0} (w : A → List ℕ) (xs : List A) (i : ℕ) (x : A) (first o : Output) {p : Output} → i < length xs → x ≡ get_or xs i x
    → sent_all o.out o.at (flat_map w (drop i xs)) ≡ sent_all first.out first.at (flat_map w xs)
    → p ≡ sent_all o.out o.at (w x) → sent_all p.out p.at (flat_map w (drop (i + 1) xs)) ≡ sent_all first.out first.at (flat_map w xs)
sent_more w xs i x first o h g e f =
    rw (add-one, f, sent_joined) (rw (drop-cons xs i x h, ← g) at e)

-- words as themselves
pub ones : (xs : List ℕ) → flat_map one xs ≡ xs
ones [] = refl
ones (x ∷ xs) = ap (λ (ys : List ℕ). x ∷ ys) (ones xs)

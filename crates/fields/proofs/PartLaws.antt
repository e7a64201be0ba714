-- Blocks of words put together of parts.
use Rattle.std.proofs.Common.{◌≡◌, ℕ, suc, ◌<◌, ◌≤◌, List, [], ◌∷◌, ◌++◌, length, drop, set, refl, ◌∙◌, append-nil, arith, append_assoc, length-append, length-set, drop_of_length-le, drop-drop, take_at, drop_at, sym, min, zero, ◌-◌, take}
use Rattle.std.proofs.lemmas.List.{length-take-le}
use borrow.Rule.Slice.PartMut.{put_mid}
use lib.Seq.{sets, set_out, sets-eq}
use Rattle.fields.specs.Parts.{with_words}

sets_out : (vs l : List ℕ) (at : ℕ) → length l ≤ at → sets l at vs ≡ l
sets_out [] l at h = refl
sets_out (x ∷ vs) l at h = rw (set_out l at x h) (sets_out vs l (suc at) (omega arith))

-- past the end nothing is stored
pub words_out : (l ws : List ℕ) (at : ℕ) → length l ≤ at → l ≡ with_words l at ws
unfolding with_words
words_out l ws at h = rw (sets_out ws l at h)

-- those that lie inside are the first ones
sets_inside : (ws l : List ℕ) (at n : ℕ) → n ≡ min (length ws) (length l - at) → sets l at (take n ws) ≡ sets l at ws
sets_inside [] l at zero h = refl
sets_inside [] l at (suc n) h = refl
sets_inside (x ∷ ws) l at zero h = rw (sets_out (x ∷ ws) l at (omega arith))
sets_inside (x ∷ ws) l at (suc n) h =
    sets_inside ws (set l at x) (suc at) n (omega (arith, length-set l at x))

-- a part of the block taken whole from the words
pub words_part : (l ws : List ℕ) (at k n : ℕ) {ys : List ℕ} → at < length l → n ≡ min (length ws) (length l - at) → k ≡ n → ys ≡ take n ws
    → put_mid at k l ys ≡ with_words l at ws
unfolding with_words
words_part l ws at k n h e q r =
    let few : n ≤ length ws = omega arith in
    let long : length (take n ws) ≡ n = length-take-le n ws few in
    rw (q, r, drop-drop n at l)
    (sym (sym (sets_inside ws l at n e) ∙ sets-eq (take n ws) l at (omega arith) ∙ rw (long, append_assoc (take at l) (take n ws))))

-- words stored right after a part
pub words_after : (a b ws : List ℕ) (n : ℕ) → length a ≡ n → length ws ≤ length b → with_words (a ++ b) n ws ≡ (a ++ ws) ++ drop (length ws) b
unfolding with_words
words_after a b ws n e h =
    sets-eq ws (a ++ b) n (rw (length-append a b, e) (omega arith))
    ∙ rw (take_at a b n e, ← drop-drop (length ws) n (a ++ b), drop_at a b n e)

-- the first part of a block
pub words_begin : (z ws : List ℕ) → length ws ≤ length z → with_words z 0 ws ≡ ws ++ drop (length ws) z
words_begin z ws h = words_after [] z ws 0 refl h

-- the last part of a block
pub words_end : (a b ws : List ℕ) (n : ℕ) → length a ≡ n → length ws ≡ length b → with_words (a ++ b) n ws ≡ a ++ ws
words_end a b ws n e h = words_after a b ws n e (omega arith) ∙ rw (drop_of_length-le b {i = length ws} (omega arith), append-nil (a ++ ws))

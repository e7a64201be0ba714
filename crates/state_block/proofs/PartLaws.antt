-- Blocks that are put together of parts, and taken apart.
use mathlib.Core.Path.{◌≡◌, refl, ◌∙◌}
use mathlib.Core.List.{List, [], ◌++◌, append-nil}
use Prim.Native.Nat.{ℕ, ◌+◌, ◌≤◌}
use native.Mathlib.Omega.{arith}
use lib.ListN.{length, drop, length-append, length-drop, drop_of_length-le}
use lib.Seq.{take-length, take-append-le, drop-append-le, drop_at}
use Rattle.fields.specs.Parts.{with_words}
use Rattle.fields.proofs.PartLaws.{words_after}
use Rattle.state_block.specs.Sizes.{part}

-- a part that lies in the first of two lists, and the second of them
pub part_kept : (xs ys : List ℕ) (at n : ℕ) → at + n ≤ length xs → part at n (xs ++ ys) ≡ part at n xs
part_kept xs ys at n h =
    rw (drop-append-le at xs ys (omega arith)) (take-append-le n (drop at xs) ys (rw (length-drop at xs) (omega arith)))

pub part_last : (xs ys : List ℕ) (at n : ℕ) → length xs ≡ at → length ys ≡ n → part at n (xs ++ ys) ≡ ys
part_last xs ys at n h k = rw (drop_at xs ys at h, ← k) (take-length ys)

-- a block of so many words that begins with some
pub record Begins (size : ℕ) (block words : List ℕ) : Type 0 where
  pub rest : List ℕ
  pub cut : block ≡ words ++ rest
  pub whole : length words + length rest ≡ size

pub begins_none : {size : ℕ} (block : List ℕ) → length block ≡ size → Begins size block []
begins_none block h = record { rest = block; cut = refl; whole = omega arith }

-- words stored right after those
pub begins_more : {size : ℕ} {block words : List ℕ} → Begins size block words → (ws : List ℕ) (at n : ℕ) {block' : List ℕ}
    → length words ≡ at
    → length ws ≡ n
    → at + n ≤ size
    → block' ≡ with_words block at ws
    → Begins size block' (words ++ ws)
begins_more {words = words} b ws at n h k l e =
    let w = b.whole in
    record {
      rest = drop (length ws) b.rest;
      cut = e ∙ rw b.cut (words_after words b.rest ws at h (omega arith));
      whole = rw (length-append words ws, length-drop (length ws) b.rest) (omega arith);
    }

-- there is nothing else
pub begins_all : {size : ℕ} {block words : List ℕ} → Begins size block words → length words ≡ size → block ≡ words
begins_all {words = words} b h =
    let w = b.whole in
    b.cut ∙ rw (drop_of_length-le b.rest {i = 0} (omega arith)) (append-nil words)

-- The pieces of the chain's layout, stored one after another.
use mathlib.Core.Path.{◌≡◌}
use mathlib.Core.List.{List, ◌++◌}
use Prim.Native.Nat.{ℕ, suc, ◌+◌, ◌*◌, ◌-◌, ◌/◌, ◌%◌, ◌^◌, ◌<◌, ◌≤◌}
use Rattle.std.proofs.Common.{add-one, drop, drop-cons}
use native.Mathlib.Omega.{arith}
use lib.ListN.{length, get_or, length-append}
use lib.Seq.{sets}
use borrow.Rule.Slice.PartMut.{put_mid}
use Rattle.std.specs.Int.{w32, to_le_bytes}
use Rattle.sheet.specs.declared.Kind.{Kind}
use Rattle.sheet.specs.Records.{record_of, body_length}
use Rattle.sheet.specs.Layout.{word_bytes, words_bytes, padding_words, lead_words, laid_out}
use Rattle.sheet.proofs.ListLaws.{sets_next, put_part}
use Rattle.sheet.proofs.LayoutLaws.{words_length}

-- ---- words

-- a word is its four bytes, stored whole
pub word_stored : (l : List ℕ) (at w : ℕ) {bytes : List ℕ} → w < 2 ^ 32 → at + 4 ≤ length l → bytes ≡ to_le_bytes w32 w → put_mid at (at + 4 - at) l bytes ≡ sets l at (word_bytes w)
word_stored l at w small h q =
    let top : w / 16777216 % 256 ≡ w / 16777216 = omega arith in
    rw (q, put_part l (to_le_bytes w32 w) at (at + 4 - at) (omega arith) (omega arith), top)

-- and the words after it
pub words_more : (l ws : List ℕ) (at i w : ℕ) {at' : ℕ} {m : List ℕ} → i < length ws → w ≡ get_or ws i 0 → at' ≡ at + 4 → m ≡ sets l at (word_bytes w)
    → {x : List ℕ} → sets l at (words_bytes (drop i ws)) ≡ x → sets m at' (words_bytes (drop (i + 1) ws)) ≡ x
words_more l ws at i w h g a p e =
    let four : at + 4 ≡ suc (suc (suc (suc at))) = omega arith in
    rw (p, a, four, add-one) (rw (drop-cons ws i 0 h, ← g) at e)

-- ---- records

-- the lead, the body and the padding are the record's part
pub record_stores : (k : Kind) (n a : ℕ) (l : List ℕ) (at : ℕ) (body : List ℕ) {to : ℕ} {x y z : List ℕ} → length body ≡ body_length k n
    → to ≡ at + 4 * length (lead_words k n a)
    → x ≡ sets l at (words_bytes (lead_words k n a))
    → y ≡ sets x to body
    → z ≡ sets y (to + body_length k n) (words_bytes (padding_words k n))
    → z ≡ sets l at (laid_out (record_of k n a body))
unfolding laid_out
record_stores k n a l at body {to} b t p r s =
    let lead : List ℕ = words_bytes (lead_words k n a) in
    let c : length lead ≡ 4 * length (lead_words k n a) = words_length (lead_words k n a) in
    let e : to + body_length k n ≡ at + length (lead ++ body) = rw (length-append lead body) (omega arith) in
    sets_next l at (lead ++ body) (words_bytes (padding_words k n)) (sets_next l at lead body p (omega arith) r) e s

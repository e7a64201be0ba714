-- The chain's layout.
use mathlib.Core.Path.{◌≡◌, refl, ◌∙◌}
use mathlib.Core.List.{List, [], ◌∷◌, ◌++◌}
use Prim.Native.Nat.{ℕ, zero, suc, ◌+◌, ◌*◌, ◌%◌, ◌<◌}
use native.Mathlib.Omega.{arith}
use lib.ListN.{length, length-append}
use Rattle.sheet.specs.declared.Kind.{Kind}
use Rattle.sheet.specs.declared.Kind.TheVariants.{Data, Code, Gs, Start}
use Rattle.sheet.specs.Records.{Record, body_length}
use Rattle.sheet.specs.Whole.{AllMeet, none, more}
use Rattle.sheet.specs.Sizes.{record_quadwords, sheet_quadwords}
use Rattle.sheet.specs.Layout.{words_bytes, code_words, gif_tag_words, odd_padding, padding_words, lead_words, laid_out, chain_of}

-- ---- words

pub words_length : (ws : List ℕ) → length (words_bytes ws) ≡ 4 * length ws
words_length [] = refl
words_length (w ∷ ws) = let h = words_length ws in omega arith

-- ---- records

pub code_length_lem : (k : Kind) (n a : ℕ) → length (code_words k n a) ≡ 4
code_length_lem Data n a = refl
code_length_lem Code n a = refl
code_length_lem Gs n a = refl
code_length_lem Start n a = refl

pub lead_length : (k : Kind) (n a : ℕ) → length (lead_words k n a) ≡ 8 + length (gif_tag_words k n)
lead_length k n a = let h = code_length_lem k n a in simp (length-append) (omega arith)

odd_length : (odd : ℕ) → odd < 2 → length (odd_padding odd) ≡ 2 * odd
odd_length zero h = refl
odd_length (suc zero) h = refl
odd_length (suc (suc n)) h = absurd (omega arith)

-- the parts of a record's part fill its quadwords
pub record_quadwords_lem : (k : Kind) (n : ℕ) → 32 + 4 * length (gif_tag_words k n) + body_length k n + 4 * length (padding_words k n) ≡ 16 * record_quadwords k n
record_quadwords_lem Data n = omega arith
record_quadwords_lem Code n = let h = odd_length (n % 2) (omega arith) in omega arith
record_quadwords_lem Gs n = omega arith
record_quadwords_lem Start n = omega arith

pub laid_length : (r : Record) → length r.body ≡ body_length r.kind r.count → length (laid_out r) ≡ 16 * record_quadwords r.kind r.count
unfolding laid_out
laid_length r b =
    let h = lead_length r.kind r.count r.address in
    let q = record_quadwords_lem r.kind r.count in
    let w = words_length (lead_words r.kind r.count r.address) in
    let p = words_length (padding_words r.kind r.count) in
    length-append (words_bytes (lead_words r.kind r.count r.address) ++ r.body) _
    ∙ rw (length-append (words_bytes (lead_words r.kind r.count r.address)) r.body) (omega arith)

-- ---- sheets

pub chain_length : {rs : List Record} → AllMeet rs → length (chain_of rs) ≡ 16 * sheet_quadwords rs
unfolding chain_of sheet_quadwords
chain_length none = refl
chain_length (more {r} {rs} m ms) =
    let l = laid_length r m.size in
    let h = chain_length ms in
    simp length-append (omega arith)

-- Accepted records: what a reading says of those that are left.
use mathlib.Core.Path.{◌≡◌, refl, sym, ◌∙◌}
use mathlib.Core.List.{List, [], ◌∷◌}
use Prim.Native.Nat.{ℕ, ◌+◌}
use native.Mathlib.Omega.{arith}
use Rattle.sheet.specs.declared.Kind.{Kind}
use Rattle.sheet.specs.Reading.{Reading, End, Found, Refused}
use Rattle.sheet.specs.Records.{Record, record_of, body_length, bytes_at}
use Rattle.sheet.specs.Reader.{Contents, valid, refused, before, reading_at, contents_from}
use Rattle.sheet.proofs.ReaderLaws.{from_end, from_found, from_refused}

-- accepted records start with a record that stands before accepted ones
pub record Rest (r : Record) (c : Contents) (rs : List Record) : Type 0 where
  pub others : List Record
  pub are : c ≡ valid others
  pub whole : rs ≡ r ∷ others

rest : (r : Record) (c : Contents) (rs : List Record) → before r c ≡ valid rs → Rest r c rs
rest r (valid others) rs h = record { others = others; are = refl; whole = cc }
rest r (refused n offset) rs h = absurd (let z : ◌≡◌ {A = ℕ} 0 1 = cc in omega arith)

-- the record found at a place
abbrev pub record_at : List ℕ → ℕ → Kind → ℕ → ℕ → Record
record_at sheet at k n a = record_of k n a (bytes_at sheet (at + 6) (body_length k n))

module _ (sheet : List ℕ) (at : ℕ) {g : Reading} (e : g ≡ reading_at sheet at) where
  module _ {rs : List Record} (h : contents_from sheet at ≡ valid rs) where
    pub rest_end : g ≡ End → rs ≡ []
    rest_end q = let p = from_end sheet at (sym e ∙ q) in cc

    pub rest_never : {n offset : ℕ} → g ≡ Refused n offset → ⊥
    rest_never {n} {offset} q =
        let p = from_refused sheet at n offset (sym e ∙ q) in
        let z : ◌≡◌ {A = ℕ} 0 1 = cc in
        omega arith

    pub rest_found : {k : Kind} {n a next : ℕ} → g ≡ Found k n a next → Rest (record_at sheet at k n a) (contents_from sheet next) rs
    rest_found {k} {n} {a} {next} q =
        rest (record_at sheet at k n a) (contents_from sheet next) rs (sym (from_found sheet at k n a next (sym e ∙ q)) ∙ h)

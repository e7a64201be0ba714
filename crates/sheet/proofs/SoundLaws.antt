-- Accepted sheets of either edition: every record meets its row, and is made of bytes. This is what demand 3 wants of the reader.
use mathlib.Core.Path.{◌≡◌, refl}
use mathlib.Core.List.{List, [], ◌∷◌, ◌++◌, append_assoc}
use Prim.Native.Nat.{ℕ, zero, suc, ◌+◌, ◌/◌, ◌%◌, ◌<◌}
use native.Mathlib.Omega.{arith}
use lib.ListN.{get_or, take, drop}
use lib.Seq.{get_or-drop}
use Rattle.sheet.specs.declared.Kind.{Kind}
use Rattle.sheet.specs.declared.Kind.TheVariants.{Data, Code, Gs, Start}
use Rattle.sheet.specs.Records.{Record, record_of, kind_number, body_length, bytes_at}
use Rattle.sheet.specs.Reader.{valid}
use Rattle.sheet.specs.Whole.{AllMeet, Bytes, record_bytes, sheet_bytes}
use Rattle.sheet.proofs.ReaderLaws.{FoundThere, found_next}
use Rattle.sheet.specs.Editions.{contents_of}
use Rattle.sheet.specs.Acts.{first_item}
use Rattle.sheet.proofs.ExpansionLaws.{expansion_all}
use Rattle.sheet.proofs.EditionLaws.{contents_items, contents_meet}

-- ---- lists of bytes

no_bytes : Bytes []
no_bytes = record { below = none_below }
  where
    none_below : (i : ℕ) → get_or [] i 0 < 256
    none_below zero = omega arith
    none_below (suc i) = omega arith

bytes_cons : (x : ℕ) (xs : List ℕ) → x < 256 → Bytes xs → Bytes (x ∷ xs)
bytes_cons x xs h b = record { below = cons_below }
  where
    cons_below : (i : ℕ) → get_or (x ∷ xs) i 0 < 256
    cons_below zero = h
    cons_below (suc i) = b.below i

bytes_first : {x : ℕ} {xs : List ℕ} → Bytes (x ∷ xs) → x < 256
bytes_first b = b.below 0

bytes_rest : {x : ℕ} {xs : List ℕ} → Bytes (x ∷ xs) → Bytes xs
bytes_rest b = record { below = λ i. b.below (suc i) }

bytes_append : (xs ys : List ℕ) → Bytes xs → Bytes ys → Bytes (xs ++ ys)
bytes_append [] ys b d = d
bytes_append (x ∷ xs) ys b d = bytes_cons x (xs ++ ys) (bytes_first b) (bytes_append xs ys (bytes_rest b) d)

bytes_drop : (n : ℕ) (xs : List ℕ) → Bytes xs → Bytes (drop n xs)
bytes_drop n xs b = record { below = λ i. rw get_or-drop (b.below (n + i)) }

bytes_take : (n : ℕ) (xs : List ℕ) → Bytes xs → Bytes (take n xs)
bytes_take zero xs b = no_bytes
bytes_take (suc n) [] b = no_bytes
bytes_take (suc n) (x ∷ xs) b = bytes_cons x (take n xs) (bytes_first b) (bytes_take n xs (bytes_rest b))

-- ---- records

kind_few : (k : Kind) → kind_number k < 256
kind_few Data = omega arith
kind_few Code = omega arith
kind_few Gs = omega arith
kind_few Start = omega arith

module _ (sheet : List ℕ) (b : Bytes sheet) where
  record_bytes_lem : (at : ℕ) {k : Kind} {n a next : ℕ} → FoundThere sheet at k n a next
      → Bytes (record_bytes (record_of k n a (bytes_at sheet (at + 6) (body_length k n))))
  record_bytes_lem at {k} {n} {a} f =
      let c = b.below (at + 3) in
      let low = b.below (at + 4) in
      let high = b.below (at + 5) in
      let ne = f.count in
      let ae = f.address in
      bytes_cons 158 _ (omega arith) (bytes_cons 81 _ (omega arith) (bytes_cons (kind_number k) _ (kind_few k) (bytes_cons n _ (omega arith) (bytes_cons (a % 256) _ (omega arith) (bytes_cons (a / 256) _ (omega arith) (bytes_take (body_length k n) (drop (at + 6) sheet) (bytes_drop (at + 6) sheet b)))))))

-- the bytes of records
pub record Octets (rs : List Record) : Type 0 where
  pub bytes : Bytes (sheet_bytes rs)

sheet_append : (rs ss : List Record) → sheet_bytes (rs ++ ss) ≡ sheet_bytes rs ++ sheet_bytes ss
unfolding sheet_bytes
sheet_append [] ss = refl
sheet_append (r ∷ rs) ss = rw (sheet_append rs ss, append_assoc)

octets_append : (rs ss : List Record) → Octets rs → Octets ss → Octets (rs ++ ss)
octets_append rs ss p q = record { bytes = rw (sheet_append rs ss) (bytes_append (sheet_bytes rs) (sheet_bytes ss) p.bytes q.bytes) }

octets_one : (r : Record) → Bytes (record_bytes r) → Octets (r ∷ [])
unfolding sheet_bytes
octets_one r b = record { bytes = bytes_append (record_bytes r) [] b no_bytes }

octets_none : Octets []
unfolding sheet_bytes
octets_none = record { bytes = no_bytes }

-- ---- sheets

-- what demand 3 wants of the reader, for both editions: the records of an accepted sheet meet their rows, and are made of bytes
pub record Sound (rs : List Record) : Type 0 where
  pub meet : AllMeet rs
  pub octets : Octets rs

pub reader_sound : (sheet : List ℕ) (rs : List Record) → Bytes sheet → contents_of sheet ≡ valid rs → Sound rs
reader_sound sheet rs b e =
    record {
      meet = contents_meet sheet rs e;
      octets = expansion_all sheet Octets octets_none octets_append (λ place k n a next h. octets_one _ (record_bytes_lem sheet b place (found_next sheet place k n a next h))) (first_item sheet) rs (contents_items sheet rs e);
    }

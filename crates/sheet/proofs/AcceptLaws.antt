-- The reader takes every sheet of records that meet their rows, which is of the first edition: the converse of `reader-loses-nothing`.
use mathlib.Core.Path.{◌≡◌, refl, sym, ◌∙◌}
use mathlib.Core.Bool.{true, false}
use mathlib.Core.List.{List, [], ◌∷◌, ◌++◌}
use Prim.Native.Nat.{ℕ, ◌+◌, ◌-◌, ◌≤◌}
use native.Mathlib.Nat.{add-zero}
use native.Mathlib.Omega.{arith}
use lib.ListN.{length, get_or, drop, length-drop, length-append}
use lib.Seq.{get_or-drop, drop-drop, take_at, drop_at}
use lib.Dec.{eqb, leb}
use borrow.Author.Tests.{le-ltb, lt-leb}
use Rattle.fields.specs.Fields.{if}
use Rattle.fields.proofs.ChoiceLaws.{and_false}
use Rattle.sheet.specs.BuildAnswer.{Built}
use Rattle.sheet.specs.declared.Kind.{Kind}
use Rattle.sheet.specs.declared.Kind.TheVariants.{Data, Code, Gs, Start}
use Rattle.sheet.specs.Reading.{Found}
use Rattle.sheet.specs.Records.{Record, longest, kind_number, body_length, bytes_at}
use Rattle.sheet.specs.Reader.{valid, marked, kind_listed, kind_of, row_refusal, record_refusal, reading_at, contents_from}
use Rattle.sheet.specs.Groups.{opens_kind, starts_second}
use Rattle.sheet.specs.Editions.{contents_of}
use Rattle.sheet.specs.Whole.{record_bytes, sheet_bytes, MeetsRow, AllMeet, none, more}
use Rattle.sheet.specs.Layout.{chain_of}
use Rattle.sheet.specs.Build.{left, stored, build_of}
use Rattle.sheet.proofs.ReaderLaws.{FoundThere, past, from_end, from_found}
use Rattle.sheet.proofs.WholeLaws.{part_fits}

-- a kind's number is listed and says the kind
numbered : (k : Kind) → (kind_listed (kind_number k) ≡ true) × (kind_of (kind_number k) ≡ k)
unfolding kind_of if
numbered Data = (refl, refl)
numbered Code = (refl, refl)
numbered Gs = (refl, refl)
numbered Start = (refl, refl)

module _ (sheet : List ℕ) (at : ℕ) where
  -- what stands at a place and meets its row is found: the converse of `found-next`
  pub there_found : {k : Kind} {n a next : ℕ} → FoundThere sheet at k n a next → reading_at sheet at ≡ Found k n a next
  unfolding reading_at record_refusal row_refusal marked if
  there_found {k} {next = next} f =
      rw (
        lt-leb (length sheet) at (omega arith),
        le-ltb (length sheet) (at + 6) (omega arith),
        f.first,
        f.second,
        f.kind,
        (numbered k).0,
        (numbered k).1,
        f.count,
        f.address,
        f.counted,
        f.addressed,
        ← f.after,
        le-ltb (length sheet) next f.inside,
        f.padded,
      )

  -- what is left of the sheet from the place on
  pub left_there : {xs : List ℕ} → drop at sheet ≡ xs → length sheet - at ≡ length xs
  left_there e = sym (length-drop at sheet) ∙ rw e

  -- a record that stands at the place, and what follows it
  module _ (r : Record) (rest : List ℕ) (m : MeetsRow r) (e : drop at sheet ≡ record_bytes r ++ rest) where
    abbrev pub after : ℕ
    after = at + 6 + body_length r.kind r.count

    byte : (i : ℕ) → get_or sheet (at + i) 0 ≡ get_or (record_bytes r ++ rest) i 0
    byte i = sym (get_or-drop at sheet i 0) ∙ rw e

    pub body : bytes_at sheet (at + 6) (body_length r.kind r.count) ≡ r.body
    body = rw (← drop-drop 6 at sheet, e) (take_at r.body rest _ m.size)

    pub onward : drop after sheet ≡ rest
    onward = rw (← drop-drop (body_length r.kind r.count) (at + 6) sheet, ← drop-drop 6 at sheet, e) (drop_at r.body rest _ m.size)

    pub there : FoundThere sheet at r.kind r.count r.address after
    there =
        record {
          first = rw add-zero at (byte 0);
          second = byte 1;
          kind = byte 2;
          count = byte 3;
          address = rw (byte 4, byte 5) (omega arith);
          after = refl;
          inside = omega (arith, left_there e, length-append r.body rest);
          counted = m.count;
          addressed = m.address;
          padded = sym (part_fits r.kind sheet (at + 6) r.count) ∙ rw body m.pads;
        }

    taken : {rs : List Record} → contents_from sheet after ≡ valid rs → contents_from sheet at ≡ valid (r ∷ rs)
    taken h = from_found sheet at r.kind r.count r.address after (there_found there) ∙ rw (body, h)

-- the records that stand from a place on are read
read_back : (sheet : List ℕ) (at : ℕ) {rs : List Record} → AllMeet rs → drop at sheet ≡ sheet_bytes rs → contents_from sheet at ≡ valid rs
unfolding sheet_bytes
read_back sheet at none e = from_end sheet at (past sheet at (omega (arith, left_there sheet at e)))
read_back sheet at (more {r} {rs} m ms) e =
    taken sheet at r (sheet_bytes rs) m e (read_back sheet (at + 6 + body_length r.kind r.count) ms (onward sheet at r (sheet_bytes rs) m e))

-- and none of them is of kind 0
kind_some : (k : Kind) → eqb (kind_number k) 0 ≡ false
kind_some Data = refl
kind_some Code = refl
kind_some Gs = refl
kind_some Start = refl

pub records_first : (rs : List Record) → starts_second (sheet_bytes rs) ≡ false
unfolding starts_second opens_kind marked sheet_bytes
records_first [] = refl
records_first (r ∷ rs) = rw (kind_some r.kind) (and_false (leb 6 (length (sheet_bytes (r ∷ rs)))))

pub reader_takes_all : (rs : List Record) → AllMeet rs → length (sheet_bytes rs) ≤ longest → contents_of (sheet_bytes rs) ≡ valid rs
unfolding contents_of if
reader_takes_all rs ms h = rw (le-ltb longest (length (sheet_bytes rs)) h, records_first rs, read_back (sheet_bytes rs) 0 ms refl)

-- and the builder builds it wherever the chain has room
pub sheet_accepted : (rs : List Record) (output : List ℕ) → AllMeet rs → length (sheet_bytes rs) ≤ longest → length (chain_of rs) ≤ length output
    → build_of (sheet_bytes rs) output ≡ left (Built (length (chain_of rs))) (stored (chain_of rs) output)
unfolding build_of if
sheet_accepted rs output ms h room = rw (reader_takes_all rs ms h, le-ltb (length output) (length (chain_of rs)) room)

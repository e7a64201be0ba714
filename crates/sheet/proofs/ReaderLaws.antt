-- What a reading says of the bytes, and reading on from it.
use mathlib.Core.Path.{◌≡◌, refl, sym, ◌∙◌}
use mathlib.Core.Bool.{Bool, true, false}
use mathlib.Core.List.{List, []}
use Prim.Native.Nat.{ℕ, zero, suc, ◌+◌, ◌*◌, ◌-◌, ◌≤◌, ◌<◌}
use native.Mathlib.Omega.{arith}
use lib.ListN.{length, get_or}
use lib.Dec.{eqb, leb, ltb}
use borrow.Author.Tests.{lt-leb, lt-ltb, le-ltb, ltb-false, not-false, leb-true, le-leb, eqb-true, eqb-false}
use Rattle.fields.specs.Fields.{if}
use Rattle.fields.proofs.ChoiceLaws.{if_ind_by, if_zero, and_left, and_right}
use Rattle.fields.specs.declared.refusals.Refusal.{Refusal}
use Rattle.fields.specs.declared.refusals.Refusal.TheVariants.{KindWrong, MarkWrong, CountWrong, AddressWrong, RecordCut, PadWrong}
use Rattle.fields.specs.Refusals.{refusal_number, mark_wrong, kind_wrong, count_wrong, address_wrong, record_cut, pad_wrong}
use Rattle.fields.proofs.RefusalLaws.{refusal_not_none}
use Rattle.std.proofs.Common.{Result, Ok, Err}
use Rattle.sheet.specs.declared.Kind.{Kind}
use Rattle.sheet.specs.Reading.{Reading, End, Found, Refused}
use Rattle.sheet.specs.Records.{record_of, kind_number, count_fits, address_fits, body_length, bytes_at, pads_fit}
use Rattle.sheet.specs.Reader.{Contents, valid, refused, before, marked, kind_listed, kind_of, kind_at, count_at, address_at, next_at, row_refusal, record_refusal, reading_at, on_reading, records_from, contents_from}

-- a test that was passed, and one that was not
pub passed : {r b : Bool} → r ≡ b → r ≡ true → b ≡ true
passed e h = sym e ∙ h

pub failed : {r b : Bool} → r ≡ b → r ≡ false → b ≡ false
failed e h = sym e ∙ h

-- whether n elements from a place on are there
pub cut : (l at n : ℕ) {m : ℕ} → m ≡ n → l - at < m → ltb l (at + n) ≡ true
cut l at n e h = lt-ltb l (at + n) (omega arith)

pub not_cut : (l at n : ℕ) {m : ℕ} → m ≡ n → at ≤ l → m ≤ l - at → ltb l (at + n) ≡ false
not_cut l at n e g h = le-ltb l (at + n) (omega arith)

-- the kind of a number, and the refusal of a number that is none
module _ {r : Result Kind Refusal} {b n : ℕ} (e : r ≡ if (kind_listed b) (Ok (kind_of b)) (Err KindWrong)) (be : b ≡ n) where
  pub kind_found : {k : Kind} → r ≡ Ok k → (kind_listed n ≡ true) × (k ≡ kind_of n)
  unfolding if
  kind_found {k} h = go (kind_listed b) refl (sym h ∙ e)
    where
      go : (d : Bool) → kind_listed b ≡ d → Ok k ≡ if d (Ok (kind_of b)) (Err KindWrong) → (kind_listed n ≡ true) × (k ≡ kind_of n)
      go true l q = (rw (← be) l, rw (← be) cc)
      go false l q = absurd (let z : ◌≡◌ {A = ℕ} 0 1 = cc in omega arith)

  pub kind_missed : {d : Refusal} → r ≡ Err d → (kind_listed n ≡ false) × (d ≡ KindWrong)
  unfolding if
  kind_missed {d} h = go (kind_listed b) refl (sym h ∙ e)
    where
      go : (x : Bool) → kind_listed b ≡ x → Err d ≡ if x (Ok (kind_of b)) (Err KindWrong) → (kind_listed n ≡ false) × (d ≡ KindWrong)
      go true l q = absurd (let z : ◌≡◌ {A = ℕ} 0 1 = cc in omega arith)
      go false l q = (rw (← be) l, cc)

-- ---- what `record_at` answers

module _ (sheet : List ℕ) (at : ℕ) (below : at < length sheet) where
  -- a refusal of the record, and the record where there is none
  pub refused_at : (e : Refusal) → record_refusal sheet at ≡ refusal_number e → Refused (refusal_number e) at ≡ reading_at sheet at
  unfolding reading_at if
  refused_at e h = rw (lt-leb (length sheet) at below, h, refusal_not_none e)

  pub whole_at : {k : Kind} {n a next : ℕ} → record_refusal sheet at ≡ 0 → k ≡ kind_at sheet at → n ≡ count_at sheet at → a ≡ address_at sheet at
      → next ≡ at + 6 + body_length k n
      → Found k n a next ≡ reading_at sheet at
  unfolding reading_at if
  whole_at h ke ne ae xe = rw (lt-leb (length sheet) at below, h, xe, ke, ne, ae)

  pub header_cut : length sheet - at < 6 → Refused record_cut at ≡ reading_at sheet at
  unfolding record_refusal if
  header_cut h = refused_at RecordCut (rw (cut (length sheet) at 6 refl h))

  -- the tests passed one after another
  module _ (whole : 6 ≤ length sheet - at) where
    pub mark_missed : marked sheet at ≡ false → Refused mark_wrong at ≡ reading_at sheet at
    unfolding record_refusal if
    mark_missed m = refused_at MarkWrong (rw (not_cut (length sheet) at 6 refl (omega arith) whole, m))

    module _ (m : marked sheet at ≡ true) where
      pub kind_wrong_at : kind_listed (get_or sheet (at + 2) 0) ≡ false → Refused kind_wrong at ≡ reading_at sheet at
      unfolding record_refusal if
      kind_wrong_at l = refused_at KindWrong (rw (not_cut (length sheet) at 6 refl (omega arith) whole, m, l))

      module _ {k : Kind} {n a : ℕ} (l : (kind_listed (get_or sheet (at + 2) 0) ≡ true) × (k ≡ kind_at sheet at)) (ne : n ≡ count_at sheet at) (ae : a ≡ address_at sheet at) where
        by_row : record_refusal sheet at ≡ row_refusal sheet at
        unfolding record_refusal if
        by_row = rw (not_cut (length sheet) at 6 refl (omega arith) whole, m, l.0)

        pub count_missed : count_fits k n ≡ false → Refused count_wrong at ≡ reading_at sheet at
        unfolding row_refusal if
        count_missed c = refused_at CountWrong (by_row ∙ rw (← l.1, ← ne, c))

        module _ (c : count_fits k n ≡ true) where
          pub address_missed : address_fits k a ≡ false → Refused address_wrong at ≡ reading_at sheet at
          unfolding row_refusal if
          address_missed b = refused_at AddressWrong (by_row ∙ rw (← l.1, ← ne, c, ← ae, b))

          module _ (b : address_fits k a ≡ true) {next : ℕ} (xe : next ≡ at + 6 + body_length k n) where
            pub body_cut : length sheet < next → Refused record_cut at ≡ reading_at sheet at
            unfolding row_refusal if
            body_cut h = refused_at RecordCut (by_row ∙ rw (← l.1, ← ne, c, ← ae, b, lt-ltb _ _ (rw xe at h)))

            module _ (h : next ≤ length sheet) where
              pub pad_missed : pads_fit k sheet (at + 6) n ≡ false → Refused pad_wrong at ≡ reading_at sheet at
              unfolding row_refusal if
              pad_missed p = refused_at PadWrong (by_row ∙ rw (← l.1, ← ne, c, ← ae, b, le-ltb _ _ (rw xe at h), p))

              pub record_whole : pads_fit k sheet (at + 6) n ≡ true → Found k n a next ≡ reading_at sheet at
              unfolding row_refusal if
              record_whole p = whole_at (by_row ∙ rw (← l.1, ← ne, c, ← ae, b, le-ltb _ _ (rw xe at h), p)) l.1 ne ae xe

-- a record that stands whole at a place and meets its row
pub record Stands (sheet : List ℕ) (at : ℕ) : Type 0 where
  pub mark : marked sheet at ≡ true
  pub listed : kind_listed (get_or sheet (at + 2) 0) ≡ true
  pub count : count_fits (kind_at sheet at) (count_at sheet at) ≡ true
  pub address : address_fits (kind_at sheet at) (address_at sheet at) ≡ true
  pub whole : next_at sheet at ≤ length sheet
  pub pads : pads_fit (kind_at sheet at) sheet (at + 6) (count_at sheet at) ≡ true

pub stands : (sheet : List ℕ) (at : ℕ) → record_refusal sheet at ≡ 0 → Stands sheet at
unfolding record_refusal row_refusal
stands sheet at h =
    let a = if_zero _ _ (omega arith) h in
    let b = if_zero _ _ (omega arith) a.1 in
    let d = if_zero _ _ (omega arith) b.1 in
    let e = if_zero _ _ (omega arith) d.1 in
    let f = if_zero _ _ (omega arith) e.1 in
    let g = if_zero _ _ (omega arith) f.1 in
    let i = if_zero _ _ (omega arith) g.1 in
    record {
      mark = not-false _ b.0;
      listed = not-false _ d.0;
      count = not-false _ e.0;
      address = not-false _ f.0;
      whole = ltb-false _ _ g.0;
      pads = not-false _ i.0;
    }

-- a kind is what its number says
abbrev Numbered : ℕ → Kind → Type 0
Numbered b k = kind_number k ≡ b

kind_number_lem : (b : ℕ) → kind_listed b ≡ true → Numbered b (kind_of b)
unfolding kind_of
kind_number_lem b h =
    let low : 1 ≤ b = leb-true 1 b (and_left _ _ h) in
    let high : b ≤ 4 = leb-true b 4 (and_right (leb 1 b) _ h) in
    if_ind_by (Numbered b) (eqb b 1) (λ e. sym (eqb-true _ _ e))
    (λ e. if_ind_by (Numbered b) (eqb b 2) (λ f. sym (eqb-true _ _ f))
    (λ f. if_ind_by (Numbered b) (eqb b 3) (λ g. sym (eqb-true _ _ g))
    (λ g. omega (arith, eqb-false b 1 e, eqb-false b 2 f, eqb-false b 3 g))))

-- a record found: what its bytes say, and that it meets its row
pub record FoundThere (sheet : List ℕ) (at : ℕ) (k : Kind) (n a next : ℕ) : Type 0 where
  pub first : get_or sheet at 0 ≡ 158
  pub second : get_or sheet (at + 1) 0 ≡ 81
  pub kind : get_or sheet (at + 2) 0 ≡ kind_number k
  pub count : get_or sheet (at + 3) 0 ≡ n
  pub address : get_or sheet (at + 4) 0 + 256 * get_or sheet (at + 5) 0 ≡ a
  pub after : next ≡ at + 6 + body_length k n
  pub inside : next ≤ length sheet
  pub counted : count_fits k n ≡ true
  pub addressed : address_fits k a ≡ true
  pub padded : pads_fit k sheet (at + 6) n ≡ true

-- a record was found where it was neither the end nor a refusal
chosen : {k : Kind} {n a next : ℕ} (b d : Bool) (f : Reading) (m offset : ℕ) → if b End (if d f (Refused m offset)) ≡ Found k n a next
    → (d ≡ true) × (f ≡ Found k n a next)
unfolding if
chosen true d f m offset e = absurd (let z : ◌≡◌ {A = ℕ} 0 1 = cc in omega arith)
chosen false true f m offset e = (refl, e)
chosen false false f m offset e = absurd (let z : ◌≡◌ {A = ℕ} 0 1 = cc in omega arith)

-- the end was found where it was the end
ended : (b d : Bool) {k : Kind} {n a next m offset : ℕ} (f r : Reading) → f ≡ Found k n a next → r ≡ Refused m offset → if b End (if d f r) ≡ End → b ≡ true
unfolding if
ended true d f r fe re e = refl
ended false true f r fe re e = absurd (let z : ◌≡◌ {A = ℕ} 0 1 = cc in omega arith)
ended false false f r fe re e = absurd (let z : ◌≡◌ {A = ℕ} 0 1 = cc in omega arith)

module _ (sheet : List ℕ) (at : ℕ) where
  pub found_next : (k : Kind) (n a next : ℕ) → reading_at sheet at ≡ Found k n a next → FoundThere sheet at k n a next
  unfolding reading_at marked
  found_next k n a next h =
      let c = chosen _ _ _ _ _ h in
      let s = stands sheet at (eqb-true _ _ c.0) in
      let ke : kind_at sheet at ≡ k = cc in
      let ne : count_at sheet at ≡ n = cc in
      let ae : address_at sheet at ≡ a = cc in
      let xe : next_at sheet at ≡ next = cc in
      record {
        first = eqb-true _ _ (and_left _ _ s.mark);
        second = eqb-true _ _ (and_right (eqb (get_or sheet at 0) 158) _ s.mark);
        kind = sym (kind_number_lem _ s.listed) ∙ rw ke;
        count = ne;
        address = ae;
        after = sym xe ∙ rw (ke, ne);
        inside = rw xe at s.whole;
        counted = rw (ke, ne) at s.count;
        addressed = rw (ke, ae) at s.address;
        padded = rw (ke, ne) at s.pads;
      }

  -- the end is past the sheet
  pub reading_end : reading_at sheet at ≡ End → length sheet ≤ at
  unfolding reading_at
  reading_end h = leb-true _ _ (ended _ _ _ _ refl refl h)

  -- and past the sheet is the end
  pub past : length sheet ≤ at → reading_at sheet at ≡ End
  unfolding reading_at if
  past h = rw (le-leb _ _ h)

-- two ways to read on that agree after a record
same_on : (f g : ℕ → Contents) (sheet : List ℕ) (at : ℕ) (r : Reading) → ((k : Kind) (n a next : ℕ) → r ≡ Found k n a next → f next ≡ g next)
    → on_reading f sheet at r ≡ on_reading g sheet at r
same_on f g sheet at End h = refl
same_on f g sheet at (Found k n a next) h = rw (h k n a next refl)
same_on f g sheet at (Refused n offset) h = refl

-- enough records are all records
enough : (m n : ℕ) (sheet : List ℕ) (at : ℕ) → length sheet ≤ at + m → length sheet ≤ at + n → records_from m sheet at ≡ records_from n sheet at
unfolding records_from
enough zero zero sheet at p q = refl
enough zero (suc n) sheet at p q = rw (past sheet at (omega arith))
enough (suc m) zero sheet at p q = rw (past sheet at (omega arith))
enough (suc m) (suc n) sheet at p q =
    same_on _ _ sheet at _ (λ k c a next h. let s = found_next sheet at k c a next h in enough m n sheet next (omega arith) (omega arith))

module _ (sheet : List ℕ) (at : ℕ) where
  from_turn : contents_from sheet at ≡ on_reading (contents_from sheet) sheet at (reading_at sheet at)
  unfolding contents_from records_from
  from_turn = enough (length sheet) (suc (length sheet)) sheet at (omega arith) (omega arith)

  pub from_end : reading_at sheet at ≡ End → contents_from sheet at ≡ valid []
  from_end h = from_turn ∙ rw h

  pub from_found : (k : Kind) (n a next : ℕ) → reading_at sheet at ≡ Found k n a next
      → contents_from sheet at ≡ before (record_of k n a (bytes_at sheet (at + 6) (body_length k n))) (contents_from sheet next)
  from_found k n a next h = from_turn ∙ rw h

  pub from_refused : (n offset : ℕ) → reading_at sheet at ≡ Refused n offset → contents_from sheet at ≡ refused n offset
  from_refused n offset h = from_turn ∙ rw h

-- Sheets of either edition: where their items begin, what accepted ones are read as, and how long their chain is.
use mathlib.Core.Path.{◌≡◌, refl, sym, ◌∙◌}
use mathlib.Core.Bool.{Bool, true, false}
use mathlib.Core.List.{List, [], ◌∷◌}
use Prim.Native.Nat.{ℕ, zero, suc, ◌+◌, ◌*◌, ◌≤◌}
use native.Mathlib.Omega.{arith}
use borrow.Author.Tests.{ltb-false, le-ltb, leb-true, eqb-true}
use lib.ListN.{length}
use lib.Dec.{ltb, leb, eqb}
use Rattle.fields.specs.Fields.{if}
use Rattle.fields.proofs.ChoiceLaws.{and_left}
use Rattle.sheet.specs.declared.Kind.{Kind}
use Rattle.sheet.specs.declared.Kind.TheVariants.{Data, Code, Gs, Start}
use Rattle.sheet.specs.Reading.{Reading, End, Found, Refused}
use Rattle.sheet.specs.Records.{Record, record_of, longest, count_fits, body_length, bytes_at}
use Rattle.sheet.specs.Reader.{Contents, valid, refused, before, reading_at, records_from, contents_from}
use Rattle.sheet.specs.Whole.{AllMeet, Bytes, sheet_bytes}
use Rattle.sheet.specs.Sizes.{record_quadwords, sheet_quadwords}
use Rattle.sheet.specs.Layout.{chain_of}
use Rattle.sheet.specs.Items.{expanded_item}
use Rattle.sheet.specs.Groups.{starts_second, plain_header, header_at}
use Rattle.sheet.specs.Editions.{before_all, deepest, items_from, expansion_from, longest_chain, limited, edition_refusal, second_of, contents_of}
use Rattle.sheet.specs.Acts.{first_item}
use Rattle.sheet.proofs.ReaderLaws.{found_next}
use Rattle.sheet.proofs.RestLaws.{rest_end, rest_found, rest_never}
use Rattle.sheet.proofs.WholeLaws.{refused_not, read_on}
use Rattle.sheet.proofs.LayoutLaws.{chain_length}
use Rattle.sheet.proofs.HeaderLaws.{first_plain, header_plain}
use Rattle.sheet.proofs.ItemLaws.{item_end, item_single, item_refused}
use Rattle.sheet.proofs.ExpansionLaws.{expansion_meets}

-- ---- the first edition: its items are its records

one_before : (r : Record) (c : Contents) → before_all (r ∷ []) c ≡ before r c
one_before r (valid rs) = refl
one_before r (refused n offset) = refl

module _ (sheet : List ℕ) (first : starts_second sheet ≡ false) where
  plain_header_lem : (at : ℕ) {x : Reading} → reading_at sheet at ≡ x → header_at sheet deepest at ≡ plain_header x
  plain_header_lem at e = sym (header_plain sheet deepest at (first_plain sheet at first) (sym e))

  by_reading : (n at : ℕ) (x : Reading) → reading_at sheet at ≡ x → ((next : ℕ) → items_from n sheet next ≡ records_from n sheet next)
      → items_from (suc n) sheet at ≡ records_from (suc n) sheet at
  unfolding items_from records_from expanded_item
  by_reading n at End e on = rw (item_end sheet at deepest (plain_header_lem at e), e)
  by_reading n at (Found k c a next) e on =
      rw (item_single sheet at deepest (plain_header_lem at e), e, ← on next) (one_before (record_of k c a (bytes_at sheet (at + 6) (body_length k c))) (items_from n sheet next))
  by_reading n at (Refused k offset) e on = rw (item_refused sheet at deepest (plain_header_lem at e), e)

  all_records : (n at : ℕ) → items_from n sheet at ≡ records_from n sheet at
  all_records zero at = unfold items_from records_from in refl
  all_records (suc n) at = by_reading n at (reading_at sheet at) refl (all_records n)

  pub first_items : (at : ℕ) → expansion_from sheet at ≡ contents_from sheet at
  unfolding expansion_from contents_from
  first_items at = all_records (length sheet) at

-- ---- its chain is never too long

row_quadwords : (k : Kind) (n : ℕ) → count_fits k n ≡ true → 3 * record_quadwords k n ≤ 6 + body_length k n
row_quadwords Data n h = omega arith
row_quadwords Code n h = omega arith
row_quadwords Gs n h = let s = leb-true 1 n (and_left (leb 1 n) (leb n 255) h) in omega arith
row_quadwords Start n h = omega arith

few : (sheet : List ℕ) (rs : List Record) (at : ℕ) (x : Reading) → reading_at sheet at ≡ x → contents_from sheet at ≡ valid rs → at ≤ length sheet
    → 3 * sheet_quadwords rs + at ≤ length sheet + 3
unfolding sheet_quadwords
few sheet [] at x e v h = omega arith
few sheet (r ∷ rs) at End e v h = absurd (let z = rest_end sheet at refl v e in let o : ◌≡◌ {A = ℕ} 0 1 = cc in omega arith)
few sheet (r ∷ rs) at (Found k n a next) e v h =
    let f = found_next sheet at k n a next e in
    let q = rest_found sheet at refl v e in
    let re : r ≡ record_of k n a (bytes_at sheet (at + 6) (body_length k n)) = first_same q.whole in
    let se : q.others ≡ rs = sym (rest_same q.whole) in
    let o = few sheet rs next (reading_at sheet next) refl (q.are ∙ rw se) f.inside in
    let w = row_quadwords k n f.counted in
    let z = f.after in
    rw re (omega arith)
  where
    first_same : {s : Record} {ss : List Record} → r ∷ rs ≡ s ∷ ss → r ≡ s
    first_same p = cc

    rest_same : {s : Record} {ss : List Record} → r ∷ rs ≡ s ∷ ss → rs ≡ ss
    rest_same p = cc
few sheet (r ∷ rs) at (Refused n offset) e v h = absurd (rest_never sheet at refl v e)

pub within_limit : (rs : List Record) → length (chain_of rs) ≤ longest_chain → limited (valid rs) ≡ valid rs
unfolding limited if
within_limit rs h = rw (le-ltb longest_chain (length (chain_of rs)) h)

module _ (sheet : List ℕ) (first : starts_second sheet ≡ false) (short : length sheet ≤ longest) where
  first_meets : (rs : List Record) → contents_from sheet 0 ≡ valid rs → AllMeet rs
  first_meets rs e = expansion_meets sheet 0 rs (first_items sheet first 0 ∙ e)

  first_short : (rs : List Record) → contents_from sheet 0 ≡ valid rs → length (chain_of rs) ≤ longest_chain
  first_short rs e =
      let q = few sheet rs 0 (reading_at sheet 0) refl e (omega arith) in
      let c = chain_length (first_meets rs e) in
      omega arith

  pub first_limited : limited (expansion_from sheet 0) ≡ contents_from sheet 0
  first_limited = rw (first_items sheet first 0) (go (contents_from sheet 0) refl)
    where
      go : (c : Contents) → contents_from sheet 0 ≡ c → limited c ≡ c
      go (valid rs) e = within_limit rs (first_short rs e)
      go (refused n offset) e = unfold limited in refl

-- ---- accepted sheets

-- an accepted sheet, by its edition
pub data Edition (sheet : List ℕ) (rs : List Record) : Type 0 where
  first : starts_second sheet ≡ false → contents_from sheet 0 ≡ valid rs → Edition sheet rs
  second : starts_second sheet ≡ true → edition_refusal sheet ≡ 0 → limited (expansion_from sheet 6) ≡ valid rs → Edition sheet rs

-- a refusal was not chosen
not_refused : (t : Bool) (n offset : ℕ) (c : Contents) {rs : List Record} → if t (refused n offset) c ≡ valid rs → (t ≡ false) × (c ≡ valid rs)
unfolding if
not_refused true n offset c e = absurd (refused_not e)
not_refused false n offset c e = (refl, e)

not_other : (t : Bool) (c : Contents) (n offset : ℕ) {rs : List Record} → if t c (refused n offset) ≡ valid rs → (t ≡ true) × (c ≡ valid rs)
unfolding if
not_other true c n offset e = (refl, e)
not_other false c n offset e = absurd (refused_not e)

valid_same : {rs ss : List Record} → valid rs ≡ valid ss → rs ≡ ss
valid_same e = cc

-- what the limit lets pass
pub not_limited : (c : Contents) {rs : List Record} → limited c ≡ valid rs → (c ≡ valid rs) × (length (chain_of rs) ≤ longest_chain)
unfolding limited
not_limited (valid ss) {rs} e =
    let h = not_refused (ltb longest_chain (length (chain_of ss))) 49 0 (valid ss) e in
    let s : ss ≡ rs = valid_same h.1 in
    let l = ltb-false longest_chain (length (chain_of ss)) h.0 in
    (h.1, rw s at l)
not_limited (refused n offset) e = absurd (refused_not e)

module _ (sheet : List ℕ) (rs : List Record) where
  by_start : (b : Bool) → starts_second sheet ≡ b → if b (second_of sheet) (contents_from sheet 0) ≡ valid rs → Edition sheet rs
  unfolding second_of if
  by_start true s e = let h = not_other (eqb (edition_refusal sheet) 0) (limited (expansion_from sheet 6)) (edition_refusal sheet) 0 e in second s (eqb-true _ _ h.0) h.1
  by_start false s e = first s e

  module _ (e : contents_of sheet ≡ valid rs) where
    chosen : (ltb longest (length sheet) ≡ false) × (if (starts_second sheet) (second_of sheet) (contents_from sheet 0) ≡ valid rs)
    unfolding contents_of
    chosen = not_refused (ltb longest (length sheet)) 46 0 _ e

    pub sheet_short : length sheet ≤ longest
    sheet_short = ltb-false _ _ chosen.0

    pub edition : Edition sheet rs
    edition = by_start (starts_second sheet) refl chosen.1

  items_by : Edition sheet rs → expansion_from sheet (first_item sheet) ≡ valid rs
  unfolding first_item if
  items_by (first s e) = rw s (first_items sheet s 0 ∙ e)
  items_by (second s z e) = rw s (not_limited (expansion_from sheet 6) e).0

  short_by : Edition sheet rs → length sheet ≤ longest → length (chain_of rs) ≤ longest_chain
  short_by (first s e) h = first_short sheet s h rs e
  short_by (second s z e) h = (not_limited (expansion_from sheet 6) e).1

  -- its items are read from the first on
  pub contents_items : contents_of sheet ≡ valid rs → expansion_from sheet (first_item sheet) ≡ valid rs
  contents_items e = items_by (edition e)

  -- every record meets its row
  pub contents_meet : contents_of sheet ≡ valid rs → AllMeet rs
  contents_meet e = expansion_meets sheet (first_item sheet) rs (contents_items e)

  -- its chain is at most 1,048,576 bytes long
  pub contents_short : contents_of sheet ≡ valid rs → length (chain_of rs) ≤ longest_chain
  contents_short e = short_by (edition e) (sheet_short e)

  -- a sheet of the first edition is its records
  pub from_start : starts_second sheet ≡ false → contents_of sheet ≡ valid rs → contents_from sheet 0 ≡ valid rs
  unfolding if
  from_start s e = rw s at (chosen e).1

-- and those records' bytes
pub reader_loses_nothing : (sheet : List ℕ) (rs : List Record) → Bytes sheet → starts_second sheet ≡ false → contents_of sheet ≡ valid rs
    → (sheet ≡ sheet_bytes rs) × AllMeet rs
reader_loses_nothing sheet rs b s e = read_on sheet b rs 0 (reading_at sheet 0) refl (from_start sheet rs s e)

-- A measured sheet: its edition, and what the sums say of its contents.
use mathlib.Core.Path.{◌≡◌, refl, ap}
use mathlib.Core.Bool.{true, false}
use mathlib.Core.List.{List}
use Prim.Native.Nat.{ℕ, ◌≤◌, ◌<◌}
use native.Mathlib.Omega.{arith}
use lib.ListN.{length}
use borrow.Author.Tests.{lt-ltb, le-ltb}
use Rattle.fields.specs.Fields.{if}
use Rattle.fields.specs.declared.refusals.Refusal.{Refusal}
use Rattle.fields.specs.Refusals.{refusal_number}
use Rattle.fields.proofs.RefusalLaws.{refusal_not_none}
use Rattle.sheet.specs.Acts.{first_item}
use Rattle.sheet.specs.StepsAnswer.{Steps, Refused as StepsRefused}
use Rattle.sheet.specs.declared.sums.Totals.{Totals}
use Rattle.sheet.specs.Measured.{Measured, Whole, Refused as MeasureRefused}
use Rattle.sheet.specs.Records.{Record}
use Rattle.sheet.specs.Reader.{Contents, valid, refused}
use Rattle.sheet.specs.Groups.{starts_second}
use Rattle.sheet.specs.Editions.{expansion_from, limited, edition_refusal, second_of, contents_of}
use Rattle.sheet.specs.Results.{steps_in}
use Rattle.sheet.specs.Sums.{sheet_totals, measured_of}
use Rattle.sheet.proofs.EditionLaws.{first_limited}

-- ---- by the edition

module _ (sheet : List ℕ) where
  pub too_long : 131072 < length sheet → MeasureRefused 46 0 ≡ measured_of (contents_of sheet)
  unfolding contents_of if
  too_long h = rw (lt-ltb _ _ h)

  module _ (h : length sheet ≤ 131072) where
    pub edition_refused : (e : Refusal) → starts_second sheet ≡ true → refusal_number e ≡ edition_refusal sheet → MeasureRefused (refusal_number e) 0 ≡ measured_of (contents_of sheet)
    unfolding contents_of second_of if
    edition_refused e s q = rw (le-ltb _ _ h, s, ← q, refusal_not_none e)

    module _ {m : Measured} {first : ℕ} (fe : first ≡ first_item sheet) (me : m ≡ measured_of (limited (expansion_from sheet first))) where
      pub measured_second : starts_second sheet ≡ true → 0 ≡ edition_refusal sheet → m ≡ measured_of (contents_of sheet)
      unfolding contents_of second_of first_item if
      measured_second s q = rw (le-ltb _ _ h, s, ← q) (rw (fe, s) at me)

      pub measured_first : starts_second sheet ≡ false → m ≡ measured_of (contents_of sheet)
      unfolding contents_of first_item if
      measured_first s = rw (le-ltb _ _ h, s) (rw (fe, s, first_limited sheet s h) at me)

-- ---- what a measured sheet says of its contents

pub record Accepted (c : Contents) (t : Totals) : Type 0 where
  pub records : List Record
  pub are : c ≡ valid records
  pub sums : t ≡ sheet_totals records

module _ (c : Contents) where
  pub measured_whole : {t : Totals} → Whole t ≡ measured_of c → Accepted c t
  measured_whole {t} q = go c q
    where
      go : (d : Contents) → Whole t ≡ measured_of d → Accepted d t
      go (valid rs) h = record { records = rs; are = refl; sums = cc }
      go (refused n offset) h = absurd (let z : ◌≡◌ {A = ℕ} 0 1 = cc in omega arith)

  pub measured_refused : {n offset : ℕ} → MeasureRefused n offset ≡ measured_of c → c ≡ refused n offset
  measured_refused {n} {offset} q = go c q
    where
      go : (d : Contents) → MeasureRefused n offset ≡ measured_of d → d ≡ refused n offset
      go (valid rs) h = absurd (let z : ◌≡◌ {A = ℕ} 0 1 = cc in omega arith)
      go (refused k o) h = cc

  pub steps_whole : {t : Totals} → Whole t ≡ measured_of c → Steps t.steps ≡ steps_in c
  steps_whole q = let a = measured_whole q in rw a.are (ap (λ (t : Totals). Steps t.steps) a.sums)

  pub steps_refused : {n offset : ℕ} → MeasureRefused n offset ≡ measured_of c → StepsRefused n offset ≡ steps_in c
  steps_refused q = rw (measured_refused q)

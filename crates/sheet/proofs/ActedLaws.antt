-- What `act_on` leaves, from the measured sheet and the actor's test; and the same read again by its callers.
use mathlib.Core.Path.{◌≡◌, refl, sym, ap, ◌∙◌}
use mathlib.Core.Bool.{Bool, true, false}
use mathlib.Core.List.{List}
use Prim.Native.Nat.{ℕ}
use native.Mathlib.Omega.{arith}
use borrow.Author.Tests.{eqb-true, eqb-false}
use lib.Dec.{eqb}
use Rattle.fields.specs.Fields.{if}
use Rattle.fields.specs.declared.refusals.Refusal.{Refusal}
use Rattle.fields.specs.Refusals.{refusal_number}
use Rattle.fields.proofs.RefusalLaws.{refusal_not_none}
use Rattle.sheet.specs.declared.sums.Totals.{Totals}
use Rattle.sheet.specs.Measured.{Measured, Whole, Refused as MeasureRefused}
use Rattle.sheet.specs.Records.{Record}
use Rattle.sheet.specs.Reader.{Contents, valid, refused}
use Rattle.sheet.specs.Whole.{AllMeet}
use Rattle.sheet.specs.Editions.{expansion_from, contents_of}
use Rattle.sheet.specs.Sums.{sheet_totals, measured_of}
use Rattle.sheet.specs.Acts.{SheetFits, records_in, first_item, Acted, acted, acted_on}
use Rattle.sheet.proofs.EditionLaws.{contents_items, contents_meet}
use Rattle.sheet.proofs.TotalsLaws.{measured_whole, measured_refused}

-- a measured sheet has its records from the first item on
pub items_whole : (sheet : List ℕ) {t : Totals} → Whole t ≡ measured_of (contents_of sheet) → records_in (expansion_from sheet (first_item sheet)) ≡ records_in (contents_of sheet)
items_whole sheet q = let a = measured_whole (contents_of sheet) q in ap records_in (contents_items sheet a.records a.are ∙ sym a.are)

module _ {S : Type 0} (act : List Record → S → S) (refusal : Totals → S → ℕ) where
  -- ---- what is left

  module _ (c : Contents) (s : S) where
    pub acted_refused : {n offset : ℕ} → MeasureRefused n offset ≡ measured_of c → acted (MeasureRefused n offset) s ≡ acted_on act refusal c s
    unfolding acted_on
    acted_refused q = rw (measured_refused c q)

    module _ {t : Totals} (q : Whole t ≡ measured_of c) where
      pub acted_tested : (e : Refusal) → refusal_number e ≡ refusal t s → acted (MeasureRefused (refusal_number e) 0) s ≡ acted_on act refusal c s
      unfolding acted_on if
      acted_tested e r = let a = measured_whole c q in rw (a.are, ← a.sums, ← r, refusal_not_none e)

      pub acted_whole : 0 ≡ refusal t s → {u : S} → u ≡ act (records_in c) s → acted (Whole t) u ≡ acted_on act refusal c s
      unfolding acted_on if
      acted_whole r e = let a = measured_whole c q in rw (e, a.are, ← a.sums, ← r)

-- the actor has room for a sheet whose sums pass its test
pub acted_fits : {S : Type 0} (refusal : Totals → S → ℕ) {Room : List Record → S → Type 0} (fits : (rs : List Record) (s : S) → AllMeet rs → refusal (sheet_totals rs) s ≡ 0 → Room rs s)
    (sheet : List ℕ) (s : S) {t : Totals} → Whole t ≡ measured_of (contents_of sheet) → 0 ≡ refusal t s → SheetFits Room sheet (first_item sheet) s
acted_fits refusal fits sheet s q r =
    let a = measured_whole (contents_of sheet) q in
    record {
      records = a.records;
      accepted = contents_items sheet a.records a.are;
      room = fits a.records s (contents_meet sheet a.records a.are) (rw (← a.sums, ← r));
    }

-- ---- the same read again

-- what stopped an action: the sheet's refusal, or the actor's of its sums
pub data Stopped (refuses : Totals → ℕ) (c : Contents) (n offset : ℕ) : Type 0 where
  by_sheet : MeasureRefused n offset ≡ measured_of c → Stopped refuses c n offset
  by_actor : {t : Totals} → Whole t ≡ measured_of c → n ≡ refuses t → (n ≡ 0 → ⊥) → offset ≡ 0 → Stopped refuses c n offset

-- a sheet whose sums are not refused
pub record Passed (refuses : Totals → ℕ) (c : Contents) (t : Totals) : Type 0 where
  pub whole : Whole t ≡ measured_of c
  pub tested : refuses t ≡ 0

module _ {S : Type 0} where
  refused_same : {u v : S} {n k offset o : ℕ} → acted (MeasureRefused n offset) u ≡ acted (MeasureRefused k o) v → (n ≡ k) × ((offset ≡ o) × (u ≡ v))
  refused_same e = let a = ap (λ (x : Acted S). x.answer) e in (cc, (cc, ap (λ (x : Acted S). x.actor) e))

  whole_same : {u v : S} {t x : Totals} → acted (Whole t) u ≡ acted (Whole x) v → (t ≡ x) × (u ≡ v)
  whole_same e = let a = ap (λ (x : Acted S). x.answer) e in (cc, ap (λ (x : Acted S). x.actor) e)

  never_whole : {u v : S} {n offset : ℕ} {t : Totals} → acted (MeasureRefused n offset) u ≡ acted (Whole t) v → ⊥
  never_whole e = let a = ap (λ (x : Acted S). x.answer) e in let z : ◌≡◌ {A = ℕ} 0 1 = cc in omega arith

module _ {S : Type 0} (act : List Record → S → S) (refusal : Totals → S → ℕ) (s u : S) where
  pub acted_stopped : (c : Contents) {n offset : ℕ} → acted (MeasureRefused n offset) u ≡ acted_on act refusal c s → Stopped (λ t. refusal t s) c n offset × (u ≡ s)
  unfolding acted_on if
  acted_stopped (refused k o) e = let p = refused_same e in (by_sheet (rw (p.0, p.1.0)), p.1.1)
  acted_stopped (valid rs) {n} {offset} e = go (eqb (refusal (sheet_totals rs) s) 0) refl e
    where
      go : (b : Bool) → eqb (refusal (sheet_totals rs) s) 0 ≡ b
          → acted (MeasureRefused n offset) u ≡ if b (acted (Whole (sheet_totals rs)) (act rs s)) (acted (MeasureRefused (refusal (sheet_totals rs) s) 0) s)
          → Stopped (λ t. refusal t s) (valid rs) n offset × (u ≡ s)
      go true q h = absurd (never_whole h)
      go false q h =
          let p = refused_same h in
          (by_actor refl p.0 (λ z. eqb-false (refusal (sheet_totals rs) s) 0 q (sym p.0 ∙ z)) p.1.0, p.1.1)

  pub acted_passed : (c : Contents) {t : Totals} → acted (Whole t) u ≡ acted_on act refusal c s → Passed (λ t. refusal t s) c t × (u ≡ act (records_in c) s)
  unfolding acted_on if
  acted_passed (refused k o) e = absurd (never_whole (sym e))
  acted_passed (valid rs) {t} e = go (eqb (refusal (sheet_totals rs) s) 0) refl e
    where
      go : (b : Bool) → eqb (refusal (sheet_totals rs) s) 0 ≡ b
          → acted (Whole t) u ≡ if b (acted (Whole (sheet_totals rs)) (act rs s)) (acted (MeasureRefused (refusal (sheet_totals rs) s) 0) s)
          → Passed (λ t. refusal t s) (valid rs) t × (u ≡ act rs s)
      go true q h =
          let p = whole_same h in
          (record { whole = ap Whole p.0; tested = rw p.0 (eqb-true (refusal (sheet_totals rs) s) 0 q) }, p.1)
      go false q h = absurd (never_whole (sym h))

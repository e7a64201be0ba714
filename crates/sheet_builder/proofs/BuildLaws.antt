-- The builder's answers.
use mathlib.Core.Path.{◌≡◌, refl, ap}
use mathlib.Core.Bool.{Bool, true, false}
use mathlib.Core.List.{List}
use Prim.Native.Nat.{ℕ, ◌+◌, ◌-◌, ◌*◌, ◌/◌, ◌<◌, ◌≤◌}
use native.Mathlib.Omega.{arith}
use borrow.Author.Tests.{lt-ltb, le-ltb, ltb-true, ltb-false}
use lib.Dec.{ltb}
use lib.ListN.{length}
use lib.Seq.{sets}
use Rattle.fields.specs.Fields.{if}
use Rattle.fields.specs.Refusals.{output_short}
use Rattle.fields.proofs.ChoiceLaws.{if_zero}
use Rattle.sheet.specs.BuildAnswer.{Built, Refused}
use Rattle.sheet.specs.declared.sums.Totals.{Totals}
use Rattle.sheet.specs.Measured.{Whole, Refused as MeasureRefused}
use Rattle.sheet.specs.Records.{Record}
use Rattle.sheet.specs.Reader.{valid}
use Rattle.sheet.specs.Sizes.{sheet_quadwords}
use Rattle.sheet.specs.Layout.{end_tag, chain_of}
use Rattle.sheet.specs.Build.{left, build_of}
use Rattle.sheet.specs.Editions.{expansion_from, contents_of}
use Rattle.sheet.specs.Acts.{SheetFits, records_in, first_item}
use Rattle.sheet.specs.Sums.{measured_of}
use Rattle.sheet_builder.specs.Writing.{chain_in, Out, out, write, WriteRoom, write_refusal}
use Rattle.sheet.proofs.ListLaws.{sets_front}
use Rattle.sheet.proofs.EditionLaws.{contents_items, contents_meet}
use Rattle.sheet.proofs.TotalsLaws.{measured_whole, measured_refused}
use Rattle.sheet.proofs.LayoutLaws.{chain_length}
use Rattle.sheet.proofs.ActedLaws.{items_whole, Stopped, by_sheet, by_actor, Passed}
use Rattle.sheet_builder.proofs.WriterLaws.{end_room, chain_whole}

-- an accepted sheet, whose chain has so many quadwords
pub record Counted (sheet : List ℕ) (quadwords : ℕ) : Type 0 where
  pub records : List Record
  pub accepted : contents_of sheet ≡ valid records
  pub sum : quadwords ≡ sheet_quadwords records

-- such a sheet, and the room of its output
module _ {sheet : List ℕ} (output : List ℕ) {q : ℕ} (m : Counted sheet q) where
  chain_bytes_lem : length (chain_of m.records) ≡ 16 * q
  chain_bytes_lem =
      let h = chain_length (contents_meet sheet m.records m.accepted) in
      let s = m.sum in
      omega arith

  pub build_short : length output / 16 < q → left (Refused 47 0) output ≡ build_of sheet output
  unfolding build_of if
  build_short h = let e = chain_bytes_lem in rw (m.accepted, lt-ltb (length output) (length (chain_of m.records)) (omega arith))

  module _ (h : q ≤ length output / 16) where
    room : length (chain_of m.records) ≤ length output
    room = let e = chain_bytes_lem in omega arith

    pub build_fits : SheetFits WriteRoom sheet (first_item sheet) (out output 0)
    build_fits =
        let r = room in
        record { records = m.records; accepted = contents_items sheet m.records m.accepted; room = record { room = omega arith } }

    pub build_whole : {o : List ℕ} → o ≡ sets output 0 (chain_in (expansion_from sheet (first_item sheet))) → left (Built (16 * q)) o ≡ build_of sheet output
    unfolding build_of if
    build_whole e =
        rw (e, m.accepted, contents_items sheet m.records m.accepted, le-ltb (length output) (length (chain_of m.records)) room, sets_front output (chain_of m.records) room, chain_bytes_lem)

-- a measured sheet: refused, or of so many quadwords
module _ (sheet : List ℕ) where
  pub build_refused : (output : List ℕ) {n offset : ℕ} → MeasureRefused n offset ≡ measured_of (contents_of sheet) → left (Refused n offset) output ≡ build_of sheet output
  unfolding build_of
  build_refused output q = rw (measured_refused (contents_of sheet) q)

  pub build_counted : {t : Totals} → Whole t ≡ measured_of (contents_of sheet) → Counted sheet t.quadwords
  build_counted q =
      let a = measured_whole (contents_of sheet) q in
      record { records = a.records; accepted = a.are; sum = ap (λ (t : Totals). t.quadwords) a.sums }

-- ---- the writer's action on a sheet

-- the writer refuses a chain that is longer than the output, with 47 alone
full_of : (t : Totals) (output : List ℕ) {n : ℕ} → n ≡ write_refusal t (out output 0) → (n ≡ 0 → ⊥) → (n ≡ 47) × (length output / 16 < t.quadwords)
unfolding write_refusal if
full_of t output {n} e z = go (ltb (length output - 0) (16 * t.quadwords)) refl e
  where
    go : (b : Bool) → ltb (length output - 0) (16 * t.quadwords) ≡ b → n ≡ if b output_short 0 → (n ≡ 47) × (length output / 16 < t.quadwords)
    go true q h = (h, let l = ltb-true (length output - 0) (16 * t.quadwords) q in omega arith)
    go false q h = absurd (z h)

module _ (sheet output : List ℕ) where
  pub build_stopped : {n offset : ℕ} → Stopped (λ t. write_refusal t (out output 0)) (contents_of sheet) n offset → left (Refused n offset) output ≡ build_of sheet output
  build_stopped (by_sheet q) = build_refused sheet output q
  build_stopped (by_actor {t} q r z o) = let f = full_of t output r z in rw (f.0, o) (build_short output (build_counted sheet q) f.1)

  module _ {t : Totals} (p : Passed (λ t. write_refusal t (out output 0)) (contents_of sheet) t) where
    pub enough : t.quadwords ≤ length output / 16
    unfolding write_refusal
    enough =
        let z = if_zero (ltb (length output - 0) (16 * t.quadwords)) output_short (omega arith) p.tested in
        let l = ltb-false (length output - 0) (16 * t.quadwords) z.0 in
        omega arith

    fits : SheetFits WriteRoom sheet (first_item sheet) (out output 0)
    fits = build_fits output (build_counted sheet p.whole) enough

    -- what the records' chain made of the output
    module _ {o : Out} (e : o ≡ write (records_in (contents_of sheet)) (out output 0)) where
      items : o ≡ write (records_in (expansion_from sheet (first_item sheet))) (out output 0)
      items = rw (items_whole sheet p.whole) e

      pub tag_room : o.to + 16 ≤ length o.output
      tag_room = end_room _ fits.accepted output fits.room items

      pub build_done : {whole : List ℕ} → whole ≡ sets o.output o.to end_tag → left (Built (16 * t.quadwords)) whole ≡ build_of sheet output
      build_done q = build_whole output (build_counted sheet p.whole) enough (chain_whole _ fits.accepted output fits.room items q)

-- The chain of records that are written one after another: an action on the output.
use mathlib.Core.Path.{◌≡◌, ◌∙◌}
use mathlib.Core.Bool.{true}
use mathlib.Core.List.{List, [], ◌∷◌, append-nil}
use Prim.Native.Nat.{ℕ, ◌+◌, ◌-◌, ◌*◌, ◌/◌, ◌<◌, ◌≤◌}
use native.Mathlib.Omega.{arith}
use borrow.Author.Tests.{eqb-true, ltb-true, leb-true, lt-ltb, le-ltb}
use lib.ListN.{length}
use lib.Seq.{sets, length-sets}
use lib.Dec.{leb}
use Rattle.fields.specs.Fields.{if}
use Rattle.fields.specs.Refusals.{output_short}
use Rattle.fields.proofs.ListLaws.{sets_then}
use Rattle.fields.proofs.ChoiceLaws.{and_right}
use Rattle.memories.specs.declared.VifUnit.TheVariants.{Vif1}
use Rattle.memories.specs.Units.{quadwords, instructions}
use Rattle.sheet.specs.declared.sums.Totals.{Totals}
use Rattle.sheet.specs.declared.Kind.{Kind}
use Rattle.sheet.specs.declared.Kind.TheVariants.{Data, Code, Gs, Start}
use Rattle.sheet.specs.Records.{Record, record_of, count_fits, address_fits, body_length, bytes_at}
use Rattle.sheet.specs.Sizes.{record_quadwords}
use Rattle.sheet.specs.Layout.{end_tag, laid_out}
use Rattle.sheet.specs.Reader.{Contents, valid}
use Rattle.sheet.specs.Acts.{RecordThere, records_in}
use Rattle.sheet_builder.specs.WriteLaws.{chain_laid, chain_size_lem}
use Rattle.sheet_builder.specs.Writing.{chain_in, RecordRoom, laid_all, Out, out, write, WriteRoom, write_refusal}
use Rattle.sheet.proofs.ListLaws.{part_length}
use Rattle.sheet.proofs.LayoutLaws.{laid_length}

-- ---- one record

count_few : (k : Kind) (n : ℕ) → count_fits k n ≡ true → n ≤ 255
count_few Data n h = leb-true n 255 (and_right (leb 1 n) _ h)
count_few Code n h = leb-true n 255 (and_right (leb 1 n) _ h)
count_few Gs n h = leb-true n 255 (and_right (leb 1 n) _ h)
count_few Start n h = let e = eqb-true n 0 h in omega arith

address_few : (k : Kind) (a : ℕ) → address_fits k a ≡ true → a < 65536
address_few Data a h = let e = ltb-true a (quadwords Vif1) h in omega arith
address_few Code a h = let e = ltb-true a (instructions Vif1) h in omega arith
address_few Gs a h = let e = eqb-true a 0 h in omega arith
address_few Start a h = let e = ltb-true a (instructions Vif1) h in omega arith

module _ (sheet : List ℕ) (body : ℕ) (k : Kind) (n a : ℕ) (there : RecordThere sheet body k n a) where
  abbrev record_found : Record
  record_found = record_of k n a (bytes_at sheet body (body_length k n))

  found_length : length (laid_out record_found) ≡ 16 * record_quadwords k n
  found_length = laid_length record_found (part_length sheet body (body_length k n) there.inside)

  one_length : length (laid_all (record_found ∷ [])) ≡ 16 * record_quadwords k n
  unfolding laid_all
  one_length = rw (append-nil (laid_out record_found)) found_length

  module _ (output : List ℕ) (to : ℕ) where
    pub record_room : WriteRoom (record_found ∷ []) (out output to) → RecordRoom sheet body k n a output to
    record_room w =
        let r = w.room in
        let c = chain_size_lem (record_found ∷ []) in
        let l = one_length in
        record { count = count_few k n there.counted; address = address_few k a there.addressed; inside = there.inside; room = omega arith }

    pub write_one : {o : List ℕ} {to' : ℕ} → (to' ≡ to + 16 * record_quadwords k n) × (o ≡ sets output to (laid_out record_found))
        → out o to' ≡ write (record_found ∷ []) (out output to)
    unfolding write laid_all
    write_one p = rw (p.0, p.1, append-nil (laid_out record_found), found_length)

-- ---- the end tag

-- an accepted sheet's records written: the end tag has room after them, and ends the chain
module _ (c : Contents) {rs : List Record} (v : c ≡ valid rs) (first : List ℕ) (room : WriteRoom rs (out first 0)) {o : Out} (e : o ≡ write (records_in c) (out first 0)) where
  written_lem : o ≡ write rs (out first 0)
  written_lem = e ∙ rw v

  pub end_room : o.to + 16 ≤ length o.output
  unfolding write
  end_room = let s = chain_size_lem rs in let r = room.room in rw (written_lem, length-sets first 0 (laid_all rs)) (omega arith)

  pub chain_whole : {whole : List ℕ} → whole ≡ sets o.output o.to end_tag → whole ≡ sets first 0 (chain_in c)
  unfolding write
  chain_whole q = rw (v, chain_laid rs) (q ∙ rw written_lem (sets_then first 0 (laid_all rs) end_tag))

-- ---- its test

module _ (t : Totals) (output : List ℕ) (to : ℕ) {left : ℕ} (e : left ≡ length output - to) where
  pub write_short : left / 16 < t.quadwords → output_short ≡ write_refusal t (out output to)
  unfolding write_refusal if
  write_short h = rw (lt-ltb (length output - to) (16 * t.quadwords) (omega arith))

  pub write_enough : t.quadwords ≤ left / 16 → 0 ≡ write_refusal t (out output to)
  unfolding write_refusal if
  write_enough h = rw (le-ltb (length output - to) (16 * t.quadwords) (omega arith))

-- Feeding as an action on a feeder: that it goes on from record to record, and what its room says.
use Rattle.std.specs.Prelude.{◌+◌, ◌*◌, ◌≡◌, List, [], ◌∷◌, ◌++◌, length, refl}
use Rattle.std.proofs.Common.{◌∙◌, arith}
use native.Mathlib.Nat.{zero-add, add-zero, add_assoc}
use lib.Seq.{length-sets}
use borrow.Author.Tests.{ltb-false}
use lib.Dec.{ltb}
use Rattle.fields.specs.Refusals.{log_full}
use Rattle.fields.proofs.ChoiceLaws.{if_zero}
use Rattle.gif.specs.Log.{entry_size, numbers}
use Rattle.memories.specs.declared.VifUnit.TheVariants.{Vif1}
use Rattle.memories.specs.Lengths.{lent}
use Rattle.memories.proofs.LengthLaws.{fit_first}
use Rattle.sheet.specs.Records.{Record}
use Rattle.sheet.specs.Sizes.{sheet_entries}
use Rattle.sheet.specs.Sums.{sheet_totals}
use Rattle.sheet.specs.Meaning.{entries_by}
use Rattle.sheet.specs.Fed.{Fed, fed_by, fed_all}
use Rattle.sheet.proofs.MeaningLaws.{mem_kept, code_kept}
use Rattle.sheet_meaning.specs.declared.plain.Feeder.{Feeder}
use Rattle.sheet_meaning.specs.Feeding.{fed_in, with_fed, RecordsRoom, feed_refusal}

entries_append : (rs ss : List Record) → sheet_entries (rs ++ ss) ≡ sheet_entries rs + sheet_entries ss
unfolding sheet_entries
entries_append [] ss = rw zero-add
entries_append (r ∷ rs) ss = rw (entries_append rs ss, add_assoc)

-- what is fed keeps the lengths, and uses the records' entries
record Kept (rs : List Record) (x y : Fed) : Type 0 where
  words : length y.mem ≡ length x.mem
  bytes : length y.code ≡ length x.code
  numbers : length y.log ≡ length x.log
  used : y.used ≡ x.used + sheet_entries rs

fed_kept : (rs : List Record) (x : Fed) → Kept rs x (fed_all rs x)
unfolding fed_all fed_by sheet_entries
fed_kept [] x = record { words = refl; bytes = refl; numbers = refl; used = rw add-zero }
fed_kept (r ∷ rs) x =
    let k = fed_kept rs (fed_by r x) in
    let u = k.used in
    record {
      words = k.words ∙ mem_kept r.kind r.count r.address r.body x.mem;
      bytes = k.bytes ∙ code_kept r.kind r.count r.address r.body x.code;
      numbers = k.numbers ∙ length-sets x.log (entry_size * x.used) (numbers (entries_by r.kind r.count r.address r.body));
      used = omega arith;
    }

pub feed_none : (x : Fed) → fed_all [] x ≡ x
unfolding fed_all
feed_none x = refl

pub feed_onward : (rs ss : List Record) (x : Fed) → fed_all ss (fed_all rs x) ≡ fed_all (rs ++ ss) x
unfolding fed_all
feed_onward [] ss x = refl
feed_onward (r ∷ rs) ss x = feed_onward rs ss (fed_by r x)

pub feed_before : (rs ss : List Record) (x : Fed) → RecordsRoom (rs ++ ss) x → RecordsRoom rs x
feed_before rs ss x h =
    let r = h.room in
    let e = entries_append rs ss in
    record { words = h.words; bytes = h.bytes; room = omega arith }

pub feed_behind : (rs ss : List Record) (x : Fed) → RecordsRoom (rs ++ ss) x → RecordsRoom ss (fed_all rs x)
feed_behind rs ss x h =
    let r = h.room in
    let e = entries_append rs ss in
    let k = fed_kept rs x in
    let l = k.numbers in
    let u = k.used in
    record { words = k.words ∙ h.words; bytes = k.bytes ∙ h.bytes; room = omega arith }

pub feed_nothing : (f : Feeder) → with_fed f (fed_all [] (fed_in f)) ≡ f
feed_nothing f = rw feed_none

pub feed_on : (rs ss : List Record) (f : Feeder) → with_fed f (fed_all ss (fed_all rs (fed_in f))) ≡ with_fed f (fed_all (rs ++ ss) (fed_in f))
feed_on rs ss f = rw feed_onward

-- what its test takes has room
pub feed_fits : (rs : List Record) (x : Fed) → feed_refusal (sheet_totals rs) x ≡ 0 → RecordsRoom rs x
unfolding feed_refusal
feed_fits rs x h =
    let f = fit_first Vif1 (lent x.mem x.code x.log) x.used h in
    let z = if_zero (ltb (length x.log) (entry_size * (x.used + sheet_entries rs))) log_full (omega arith) f.1 in
    record { words = f.0.long; bytes = f.0.wide; room = ltb-false (length x.log) (entry_size * (x.used + sheet_entries rs)) z.0 }

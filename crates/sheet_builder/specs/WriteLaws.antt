-- The action on the output: that it goes on from record to record, and what its room says.
use Rattle.std.specs.Prelude.{◌+◌, ◌-◌, ◌*◌, ◌<◌, ◌≡◌, List, [], ◌∷◌, ◌++◌, length, ltb, refl}
use Rattle.std.proofs.Common.{append_assoc, length-append, add-zero, add_assoc, arith}
use lib.Seq.{length-sets}
use borrow.Author.Tests.{ltb-false}
use Rattle.fields.specs.Refusals.{output_short}
use Rattle.fields.proofs.ChoiceLaws.{if_zero}
use Rattle.fields.proofs.ListLaws.{sets_then}
use Rattle.sheet.specs.Records.{Record}
use Rattle.sheet.specs.Sizes.{sheet_quadwords}
use Rattle.sheet.specs.Whole.{AllMeet}
use Rattle.sheet.specs.Sums.{sheet_totals}
use Rattle.sheet.specs.Layout.{end_tag, chain_of}
use Rattle.sheet.proofs.LayoutLaws.{chain_length}
use Rattle.sheet_builder.specs.declared.writer.Writer.{Writer}
use Rattle.sheet_builder.specs.Writing.{laid_all, Out, out, with_out, write, WriteRoom, write_refusal}

-- ---- the chain without its end tag

laid_append : (rs ss : List Record) → laid_all (rs ++ ss) ≡ laid_all rs ++ laid_all ss
unfolding laid_all
laid_append [] ss = refl
laid_append (r ∷ rs) ss = rw (laid_append rs ss, append_assoc)

pub chain_laid : (rs : List Record) → chain_of rs ≡ laid_all rs ++ end_tag
unfolding laid_all chain_of
chain_laid [] = refl
chain_laid (r ∷ rs) = rw (chain_laid rs, append_assoc)

pub chain_size_lem : (rs : List Record) → length (chain_of rs) ≡ length (laid_all rs) + 16
chain_size_lem rs = rw (chain_laid rs) (length-append (laid_all rs) end_tag)

both_size : (rs ss : List Record) → length (laid_all (rs ++ ss)) ≡ length (laid_all rs) + length (laid_all ss)
both_size rs ss = rw (laid_append rs ss) (length-append (laid_all rs) (laid_all ss))

-- ---- the action

pub write_none : (o : Out) → write [] o ≡ o
unfolding write laid_all
write_none o = rw add-zero

pub write_onward : (rs ss : List Record) (o : Out) → write ss (write rs o) ≡ write (rs ++ ss) o
unfolding write
write_onward rs ss o = rw (laid_append rs ss, sets_then o.output o.to (laid_all rs) (laid_all ss), length-append, add_assoc)

pub write_before : (rs ss : List Record) (o : Out) → WriteRoom (rs ++ ss) o → WriteRoom rs o
write_before rs ss o h =
    let p = h.room in
    let a = chain_size_lem (rs ++ ss) in
    let b = chain_size_lem rs in
    let c = both_size rs ss in
    record { room = omega arith }

pub write_behind : (rs ss : List Record) (o : Out) → WriteRoom (rs ++ ss) o → WriteRoom ss (write rs o)
unfolding write
write_behind rs ss o h =
    let p = h.room in
    let a = chain_size_lem (rs ++ ss) in
    let b = chain_size_lem ss in
    let c = both_size rs ss in
    record { room = rw (length-sets o.output o.to (laid_all rs)) (omega arith) }

pub write_nothing : (w : Writer) → with_out w (write [] (out w.output.now w.to)) ≡ w
write_nothing w = rw write_none

pub write_on : (rs ss : List Record) (w : Writer)
    → with_out (with_out w (write rs (out w.output.now w.to))) (write ss (write rs (out w.output.now w.to))) ≡ with_out w (write (rs ++ ss) (out w.output.now w.to))
write_on rs ss w = rw write_onward

-- ---- its test

-- the end tag alone is a quadword
some_quadword : (rs : List Record) → 0 < sheet_quadwords rs
unfolding sheet_quadwords
some_quadword [] = omega arith
some_quadword (r ∷ rs) = let h = some_quadword rs in omega arith

pub write_fits : (rs : List Record) (o : Out) → AllMeet rs → write_refusal (sheet_totals rs) o ≡ 0 → WriteRoom rs o
unfolding write_refusal
write_fits rs o m h =
    let z = if_zero (ltb (length o.output - o.to) (16 * sheet_quadwords rs)) output_short (omega arith) h in
    let l = ltb-false (length o.output - o.to) (16 * sheet_quadwords rs) z.0 in
    let c = chain_length m in
    let p = some_quadword rs in
    record { room = omega arith }

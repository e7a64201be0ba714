use Rattle.std.proofs.Common.{arith, refl, ◌∙◌}
use Rattle.sheet_builder.proofs.StoreLaws.{word_stored, words_more}
use Rattle.sheet_builder.proofs.writer.put_words.Goals as goal

pub loop-word-preserved : goal.loop-word-preserved
loop-word-preserved c =
    let i = c.loop-word.invariant in
    let p = word_stored c.loop-word.output c.loop-word.to _ (c.type_inv.words c.loop-word.word-index).fits (omega arith) (c.copy_from_slice.ensures.after ∙ c.to_le_bytes.ensures) in
    record { to_is = omega arith; same = words_more _ _ _ c.loop-word.word-index _ (omega arith) refl refl p i.same }

use Rattle.sheet_meaning.proofs.BodyLaws.{vector_stored}
use Rattle.sheet_meaning.proofs.plain.put_vector.Goals as goal

pub returns : goal.returns
returns c =
    vector_stored _ _ c.args.q _ c.requires.0 c.requires.1 c.word_inside.ensures c.word_inside-2.ensures c.word_inside-3.ensures c.word_inside-4.ensures c.copy_from_slice.ensures.after

use Rattle.unpack.proofs.short.skip.Goals as goal

pub returns : goal.returns
returns c = rw (c.word_inside.ensures, c.word_inside-2.ensures, c.word_inside-3.ensures)

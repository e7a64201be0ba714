use Rattle.state_block.proofs.WordLaws.{given, chunk_length}
use Rattle.state_block.proofs.StateLaws.{none_long, none_stands, words_read}
use Rattle.state_block.proofs.state.state_given.Goals as goal

pub returns-in-None : goal.returns-in-None
returns-in-None c = rw (c.no_state.ensures, none_long c.args.block.now c.in-None.ensures.cases)

pub returns-in-Some : goal.returns-in-Some
returns-in-Some c =
    let w = c.in-Some.ensures.cases in
    rw (c.unwrap_or.ensures, c.state_in_words.ensures, c.no_state-in-Some.ensures, c.used_in_words.ensures, ← w.same)
    (rw (words_read _ (chunk_length w)) (given _ _ _ (none_stands _ (chunk_length w))))

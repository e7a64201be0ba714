use Rattle.state_block.proofs.WordLaws.{chunk_length}
use Rattle.state_block.proofs.StateLaws.{none_long, words_read}
use Rattle.state_block.proofs.state.state_in_block.Goals as goal

pub returns-in_err-as_array : goal.returns-in_err-as_array
returns-in_err-as_array c = rw (c.from_residual.ensures, none_long c.args.block.now c.in_err-as_array.ensures.cases)

pub returns : goal.returns
returns c =
    let w = c.in_ok-as_array.ensures.cases in
    rw (c.state_in_words.ensures, ← w.same) (words_read _ (chunk_length w))

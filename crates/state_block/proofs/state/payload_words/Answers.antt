use borrow.Author.Tests.{ne_eqb}
use Rattle.fields.specs.Fields.{if}
use Rattle.state_block.proofs.state.payload_words.Goals as goal

pub returns-then-count-eq0 : goal.returns-then-count-eq0
unfolding if
returns-then-count-eq0 c = rw (c.in-Words.is, c.if-count-eq0.true)

pub returns-else-count-eq0 : goal.returns-else-count-eq0
unfolding if
returns-else-count-eq0 c = rw (c.in-Words.is, ne_eqb _ _ c.if-count-eq0.false)

use Rattle.fields.specs.Fields.{if}
use Rattle.state_block.specs.StateBlock.{stack_in_block}
use Rattle.state_block.proofs.state.stack_in_words.Goals as goal

pub returns-in-0 : goal.returns-in-0
unfolding stack_in_block if
returns-in-0 c = rw c.in-0.is

pub returns-in-1 : goal.returns-in-1
unfolding stack_in_block if
returns-in-1 c = rw c.in-1.is

pub returns-in-2 : goal.returns-in-2
unfolding stack_in_block if
returns-in-2 c = rw c.in-2.is

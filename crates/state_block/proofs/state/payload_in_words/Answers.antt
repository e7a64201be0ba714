use Rattle.std.proofs.Common.{ne_eqb, get_or, arith}
use Rattle.fields.specs.Fields.{if}
use Rattle.state_block.specs.StateBlock.{payload_in_block}
use Rattle.state_block.proofs.state.payload_in_words.Goals as goal

pub returns-in-0 : goal.returns-in-0
unfolding payload_in_block if
returns-in-0 c = rw c.in-0.is

pub returns-in_default : goal.returns-in_default
unfolding payload_in_block if
returns-in_default c = rw (ne_eqb (get_or c.args.block.now 9 0) 0 (λ e. omega (arith, e)))

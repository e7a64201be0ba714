use Rattle.fields.specs.Fields.{if}
use Rattle.tejborun.specs.Buffers.{written_back}
use Rattle.tejborun.proofs.blocks.put_back.Goals as goal

pub returns-then-effect : goal.returns-then-effect
unfolding written_back if
returns-then-effect c = rw c.if-effect.true c.put_state.ensures

pub returns-else-effect : goal.returns-else-effect
unfolding written_back if
returns-else-effect c = rw c.if-effect.false

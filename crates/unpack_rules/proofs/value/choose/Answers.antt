use Rattle.fields.specs.Fields.{if}
use Rattle.unpack_rules.proofs.value.choose.Goals as goal

pub returns-then-first : goal.returns-then-first
unfolding if
returns-then-first c = rw c.if-first.true

pub returns-else-first : goal.returns-else-first
unfolding if
returns-else-first c = rw c.if-first.false

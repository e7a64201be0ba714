use Rattle.fields.specs.Fields.{if}
use Rattle.compare.specs.Parts.{looked_at}
use Rattle.compare.proofs.parts.looked_at.Goals as goal

pub returns-then-asked : goal.returns-then-asked
unfolding looked_at if
returns-then-asked c = rw c.if-asked.true

pub returns-else-asked : goal.returns-else-asked
unfolding looked_at if
returns-else-asked c = rw c.if-asked.false

use Rattle.std.proofs.Common.{eq-eqb, ne_eqb}
use Rattle.fields.specs.Fields.{if}
use Rattle.fields.proofs.counting.where_id.Goals as goal

pub returns-then-id-asked : goal.returns-then-id-asked
unfolding if
returns-then-id-asked c = rw (eq-eqb _ _ c.if-id-asked.true)

pub returns-else-id-asked : goal.returns-else-id-asked
unfolding if
returns-else-id-asked c = rw (ne_eqb _ _ c.if-id-asked.false)

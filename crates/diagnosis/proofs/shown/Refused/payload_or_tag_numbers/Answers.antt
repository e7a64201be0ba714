use Rattle.std.proofs.Common.{ne_eqb}
use Rattle.fields.specs.Fields.{if}
use Rattle.diagnosis.proofs.shown.Refused.payload_or_tag_numbers.Goals as goal

pub returns-then-count-eq0 : goal.returns-then-count-eq0
unfolding if
returns-then-count-eq0 c = rw (c.in-Words.is, c.if-count-eq0.true, ← c.number-then-count-eq0.ensures) c.tag_numbers-then-count-eq0.ensures

pub returns-else-count-eq0 : goal.returns-else-count-eq0
unfolding if
returns-else-count-eq0 c = rw (c.in-Words.is, ne_eqb _ _ c.if-count-eq0.false) c.payload_numbers.ensures

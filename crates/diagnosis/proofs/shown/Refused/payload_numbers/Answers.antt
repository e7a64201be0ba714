use Rattle.std.proofs.Common.{eq-eqb, ne_eqb}
use Rattle.fields.specs.Fields.{if}
use Rattle.diagnosis.specs.Why.{payload_numbers}
use Rattle.diagnosis.proofs.shown.Refused.payload_numbers.Goals as goal

pub returns-then-s-eq2 : goal.returns-then-s-eq2
unfolding payload_numbers if
returns-then-s-eq2 c = rw (eq-eqb _ _ c.if-s-eq2.true, ← c.number.ensures) c.quadword_numbers.ensures

pub returns-else-s-eq2 : goal.returns-else-s-eq2
unfolding payload_numbers if
returns-else-s-eq2 c = rw (ne_eqb _ _ c.if-s-eq2.false) c.unit_numbers.ensures

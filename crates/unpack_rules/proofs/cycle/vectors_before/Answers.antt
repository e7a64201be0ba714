use Rattle.std.proofs.Common.{le-ltb, lt-ltb}
use Rattle.fields.specs.Fields.{if}
use Rattle.unpack_rules.specs.Position.{vectors_before}
use Rattle.unpack_rules.proofs.cycle.vectors_before.Goals as goal

pub returns-then-cl-wl : goal.returns-then-cl-wl
unfolding vectors_before if
returns-then-cl-wl c = rw (lt-ltb _ _ c.if-cl-wl.true, c.min.ensures)

pub returns-else-cl-wl : goal.returns-else-cl-wl
unfolding vectors_before if
returns-else-cl-wl c = rw (le-ltb _ _ c.if-cl-wl.false)

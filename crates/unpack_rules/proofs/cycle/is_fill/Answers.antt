use Rattle.std.proofs.Common.{le-ltb, lt-ltb}
use Rattle.unpack_rules.specs.Position.{fills}
use Rattle.unpack_rules.proofs.cycle.is_fill.Goals as goal

pub returns-then-cl-wl : goal.returns-then-cl-wl
unfolding fills
returns-then-cl-wl c = rw (lt-ltb _ _ c.if-cl-wl.true)

pub returns-else-cl-wl : goal.returns-else-cl-wl
unfolding fills
returns-else-cl-wl c = rw (le-ltb _ _ c.if-cl-wl.false)

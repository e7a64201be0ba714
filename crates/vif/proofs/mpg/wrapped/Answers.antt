use mathlib.Core.Path.{sym}
use native.Mathlib.Nat.{mod-eq_of_lt}
use Rattle.vif.proofs.mpg.wrapped.Goals as goal

pub returns-then-at-size : goal.returns-then-at-size
returns-then-at-size c = sym (mod-eq_of_lt c.if-at-size.true)

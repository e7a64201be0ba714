use borrow.Author.Tests.{lt-ltb}
use mathlib.Core.Path.{sym, ◌∙◌}
use Rattle.unpack_rules.proofs.WriteLaws.{filling_place}
use Rattle.unpack.proofs.write.Writes.place.Goals as goal

pub returns-then-self : goal.returns-then-self
returns-then-self c = c.wrapped.ensures ∙ sym (filling_place _ _ _ _ _ (lt-ltb _ _ c.if-self.true))

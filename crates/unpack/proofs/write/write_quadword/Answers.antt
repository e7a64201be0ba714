use Rattle.unpack_rules.proofs.WriteLaws.{plain_stored}
use mathlib.Core.Path.{sym, ◌∙◌}
use borrow.Author.Rules.{rules}
use Rattle.unpack.proofs.write.write_quadword.Goals as goal

pub returns-then-is_plain : goal.returns-then-is_plain
returns-then-is_plain c = plain_stored _ _ _ _ _ _ _ (search rules) (sym c.is_plain.ensures ∙ c.if-is_plain.true) c.store_quadword.ensures

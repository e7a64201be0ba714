use Rattle.std.proofs.Common.{sym, ◌∙◌}
use Rattle.fields.specs.Fields.{if}
use Rattle.unpack_rules.specs.Write.{registers_at}
use Rattle.unpack_rules.proofs.Registers.mode_at.Goals as goal

pub returns-then-is_fill : goal.returns-then-is_fill
unfolding registers_at if
returns-then-is_fill c = rw (sym c.is_fill.ensures ∙ c.if-is_fill.true)

pub returns-else-is_fill : goal.returns-else-is_fill
unfolding registers_at if
returns-else-is_fill c = rw (sym c.is_fill.ensures ∙ c.if-is_fill.false)

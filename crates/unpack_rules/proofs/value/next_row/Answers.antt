use Rattle.std.proofs.Common.{◌∙◌}
use Rattle.unpack_rules.specs.Write.{row_of}
use Rattle.unpack_rules.proofs.WriteLaws.{if_both}
use Rattle.unpack_rules.proofs.value.next_row.Goals as goal

pub returns : goal.returns
unfolding row_of
returns c = c.choose.ensures ∙ rw (c.choose-next.ensures, c.add.ensures) (if_both _ _ _ _)

use Rattle.std.proofs.Common.{◌∙◌}
use Rattle.unpack_rules.specs.Write.{data_of}
use Rattle.unpack_rules.proofs.WriteLaws.{if_either}
use Rattle.unpack_rules.proofs.value.data_of.Goals as goal

pub returns : goal.returns
unfolding data_of
returns c = c.choose-2.ensures ∙ rw (c.choose.ensures, c.add-sum.ensures) (if_either _ _ _ _)

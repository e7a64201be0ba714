use Rattle.std.proofs.Common.{◌∙◌}
use Rattle.unpack_rules.specs.Write.{field_of}
use Rattle.unpack_rules.proofs.value.field.Goals as goal

pub returns : goal.returns
unfolding field_of
returns c =
    c.choose-2.ensures ∙ rw (c.data_of.ensures, c.choose-other.ensures, c.choose.ensures)

use Rattle.unpack_rules.specs.Mask.{mask_of}
use Rattle.fields.specs.Fields.{if}
use Rattle.unpack_rules.proofs.mask.mask_of.Goals as goal

pub returns-then-masked : goal.returns-then-masked
unfolding mask_of if
returns-then-masked c = rw c.if-masked.true

pub returns-else-masked : goal.returns-else-masked
unfolding mask_of if
returns-else-masked c = rw c.if-masked.false

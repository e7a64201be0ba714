use Rattle.unpack_rules.specs.Mask.{code_at}
use Rattle.std.proofs.Common.{div-one}
use Rattle.unpack_rules.proofs.mask.unfold_mask.Goals as goal

pub returns : goal.returns
unfolding code_at
returns c = simp div-one

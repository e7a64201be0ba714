use Rattle.unpack_rules.specs.Whole.{store_quadword}
use mathlib.Core.Path.{refl}
use Rattle.unpack.proofs.write.store_quadword.Goals as goal

pub returns : goal.returns
unfolding store_quadword
returns c = refl

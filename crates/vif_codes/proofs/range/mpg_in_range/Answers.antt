use Rattle.vif_codes.proofs.RangeLaws.{up_to_fits}
use native.Mathlib.Omega.{arith}
use mathlib.Core.Bool.{true}
use mathlib.Core.Path.{◌≡◌}
use Rattle.vif_codes.specs.Range.{up_to}
use Rattle.std.proofs.lemmas.Grind.{common_steps}
use Rattle.vif_codes.proofs.range.mpg_in_range.Goals as goal

pub overflow_add-count : goal.overflow_add-count
overflow_add-count c = let e : up_to 256 c.args.count ≡ true = grind (arith, common_steps) in let f = up_to_fits 256 c.args.count e in omega arith

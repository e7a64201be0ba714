use Rattle.vif_codes.specs.Execute.{begin_mpg}
use Rattle.unpack_rules.proofs.StepLaws.{count_few}
use native.Mathlib.Omega.{arith}
use Rattle.vif_codes.proofs.execute.begin_mpg.Goals as goal

pub overflow_add-waiting : goal.overflow_add-waiting
overflow_add-waiting c = let n = count_few c.args.num in omega (arith, c.count_of-count.ensures)

pub returns : goal.returns
unfolding begin_mpg
returns c = rw (← c.count_of-count.ensures) c.waits.ensures

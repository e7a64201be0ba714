use mathlib.Core.Path.{◌≡◌}
use mathlib.Core.Bool.{true}
use Prim.Native.Nat.{◌*◌}
use native.Mathlib.Omega.{arith}
use Rattle.std.proofs.lemmas.Grind.{common_steps}
use Rattle.fields.specs.Memory.{inside}
use Rattle.vif.specs.Feed.{words_inside}
use Rattle.gif.proofs.FeedLaws.{inside_most}
use Rattle.vif.proofs.feed.words_inside.Goals as goal

pub overflow_add-result : goal.overflow_add-result
overflow_add-result c =
    let x = c.args in
    let e : inside x.main.now x.a (4 * x.count) ≡ true = grind (arith, common_steps) in
    omega (arith, inside_most _ _ _ e)

pub returns-then-a-eq0 : goal.returns-then-a-eq0
unfolding words_inside
returns-then-a-eq0 c = grind (arith, common_steps)

pub returns-else-a-eq0 : goal.returns-else-a-eq0
unfolding words_inside
returns-else-a-eq0 c = grind (arith, common_steps)

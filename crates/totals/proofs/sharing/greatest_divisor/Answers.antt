use native.Mathlib.Nat.{mod-lt}
use native.Mathlib.Omega.{arith}
use borrow.Author.Rules.{rules}
use Rattle.totals.proofs.DivisorLaws.{same_begin, same_turn, same_ends}
use Rattle.totals.proofs.sharing.greatest_divisor.Goals as goal

pub loop-y-init : goal.loop-y-init
loop-y-init c = same_begin _ _

pub loop-y-smaller : goal.loop-y-smaller
loop-y-smaller c = mod-lt _ (search rules)

pub loop-y-preserved : goal.loop-y-preserved
loop-y-preserved c = same_turn _ _ c.loop-y.invariant

pub returns : goal.returns
returns c = same_ends _ _ (omega arith) c.loop-y.invariant

use mathlib.Core.Path.{◌≡◌}
use native.Mathlib.Omega.{arith}
use Rattle.vif.proofs.FeedLaws.{leads_none}
use Rattle.vif.proofs.CodesLaws.{codes_more, nop_leads}
use Rattle.vif.proofs.codes.nops_ahead.Goals as goal

pub loop-k-init : goal.loop-k-init
loop-k-init c = λ which x h. leads_none

pub loop-k-preserved : goal.loop-k-preserved
loop-k-preserved c =
    λ which x h. codes_more (c.loop-k.invariant which x h) (nop_leads h (rw (← c.word_at.ensures) c.if-word_at-ne0.false))

pub returns : goal.returns
returns c =
    let e : c.loop-k.k ≡ c.args.n = omega arith in
    (omega arith, λ e l z. absurd (omega arith), rw e at c.loop-k.invariant)

use mathlib.Core.Path.{refl}
use mathlib.Core.Bool.{true, false}
use Rattle.vif_codes.proofs.RangeLaws.{direct_due, directhl_due}
use Rattle.vif.proofs.BurstLaws.{burst_quadwords}
use Rattle.vif.proofs.bursts.burst.Goals as goal

pub quadwords-r-requires : goal.quadwords-r-requires
quadwords-r-requires c =
    ((direct_due _ c.args.s.unit c.requires.0 c.in-DirectDue.is).0, c.requires.1)

pub quadwords-r-requires-in-DirecthlDue : goal.quadwords-r-requires-in-DirecthlDue
quadwords-r-requires-in-DirecthlDue c =
    ((directhl_due _ c.args.s.unit c.requires.0 c.in-DirecthlDue.is).0, c.requires.1)

pub returns-in-DirectDue : goal.returns-in-DirectDue
returns-in-DirectDue c =
    λ mem code.
    burst_quadwords mem code false _ c.requires.1 c.in-DirectDue.is c.quadwords-r.ensures refl c.with_quadwords.ensures

pub returns-in-DirecthlDue : goal.returns-in-DirecthlDue
returns-in-DirecthlDue c =
    λ mem code.
    burst_quadwords mem code true _ c.requires.1 c.in-DirecthlDue.is c.quadwords-r-in-DirecthlDue.ensures refl c.with_quadwords-in-DirecthlDue.ensures

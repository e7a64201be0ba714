use native.Mathlib.Nat.{sub-zero}
use Rattle.sheet_meaning.proofs.BodyLaws.{entry_inside}
use Rattle.sheet_meaning.proofs.MatchLaws.{meets_on, meets_end}
use Rattle.sheet_meaning.proofs.matching.meet_entries.Goals as goal

pub loop-j-init : goal.loop-j-init
loop-j-init c = rw sub-zero

pub loop-j-preserved : goal.loop-j-preserved
loop-j-preserved c =
    meets_on _ _ _ _ _ _ c.loop-j-test.true c.meet-met.ensures (entry_inside c.args.sheet.now c.args.body _ _ c.loop-j-test.true c.requires.0 c.entry_at.ensures) c.loop-j.invariant

pub returns : goal.returns
returns c = meets_end _ _ _ _ _ c.loop-j-test.false c.loop-j.invariant

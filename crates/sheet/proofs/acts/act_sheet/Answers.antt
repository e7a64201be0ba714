use Rattle.std.proofs.Common.{arith, refl, sym, ◌∙◌}
use Rattle.sheet.proofs.ActLaws.{Action, sheet_end, item_fits, item_next, sheet_fits, sheet_done_lem, sheet_acted}
use Rattle.sheet.proofs.acts.act_sheet.Given.{Over}
use Rattle.sheet.proofs.acts.act_sheet.Goals as goal

-- the actor's action
abbrev acting : (g : Over) → Action g.row.A.Denot
acting g = record { act = g.A.Act.act; Room = g.A.Act.Room; nothing = g.met.A.Act.nothing; onward = g.met.A.Act.onward; before = g.met.A.Act.before; behind = g.met.A.Act.behind }

pub loop-at-init : goal.loop-at-init
loop-at-init g c = record { fits = rw c.first_item-at.ensures c.requires; same = rw c.first_item-at.ensures refl }

pub act_item-at-requires : goal.act_item-at-requires
act_item-at-requires g c = item_fits (acting g) _ _ _ c.loop-at.invariant.fits c.loop-at-test.true

pub loop-at-smaller : goal.loop-at-smaller
loop-at-smaller g c = let n = item_next (acting g) _ _ _ c.loop-at.invariant.fits c.loop-at-test.true c.act_item-at.ensures in omega arith

pub loop-at-preserved : goal.loop-at-preserved
loop-at-preserved g c =
    let i = c.loop-at.invariant in
    let h = c.loop-at-test.true in
    record {
      fits = sheet_fits (acting g) _ _ _ i.fits h c.act_item-at.ensures;
      same = sheet_done_lem (acting g) _ _ _ i.fits h c.act_item-at.ensures ∙ i.same;
    }

pub returns : goal.returns
returns g c =
    let i = c.loop-at.invariant in
    sym (sheet_end (acting g) _ _ _ i.fits c.loop-at-test.false) ∙ i.same ∙ sheet_acted (acting g) _ c.requires.accepted _

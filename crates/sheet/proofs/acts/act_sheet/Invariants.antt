use Rattle.std.proofs.Common.{◌≡◌, ◌-◌, length}
use Rattle.sheet.specs.Editions.{expansion_from}
use Rattle.sheet.specs.Acts.{SheetFits, sheet_done, first_item}
use Rattle.sheet.proofs.acts.act_sheet.Given as goal

abbrev pub invariant-loop-at : goal.invariant-loop-at
invariant-loop-at g l =
    record {
      fits : SheetFits g.A.Act.Room l.sheet l.at l.actor;
      same : sheet_done g.A.Act.act (expansion_from l.sheet l.at) l.actor ≡ sheet_done g.A.Act.act (expansion_from l.sheet (first_item l.sheet)) l.fn.actor;
    }

-- bytes left
abbrev pub decreases-loop-at : goal.decreases-loop-at
decreases-loop-at g l = length l.sheet - l.at

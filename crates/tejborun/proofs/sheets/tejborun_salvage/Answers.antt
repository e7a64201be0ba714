use Rattle.tejborun.proofs.SheetLaws.{salvage_short, salvage_told}
use Rattle.tejborun.proofs.sheets.tejborun_salvage.Goals as goal

pub returns-then-res-lt2 : goal.returns-then-res-lt2
returns-then-res-lt2 c = salvage_short _ _ _ _ c.if-res-lt2.true

pub returns-in-Ok : goal.returns-in-Ok
returns-in-Ok c =
    salvage_told _ _ _ _ c.if-res-lt2.false c.salvage.ensures (rw (c.in-Ok.is, c.put.ensures))

pub returns-in-Err : goal.returns-in-Err
returns-in-Err c =
    salvage_told _ _ _ _ c.if-res-lt2.false c.salvage.ensures (rw (c.in-Err.is, c.put-in-Err.ensures, c.number.ensures))

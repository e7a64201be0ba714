use Rattle.tejborun.proofs.SheetLaws.{steps_short, steps_told}
use Rattle.tejborun.proofs.sheets.tejborun_steps.Goals as goal

pub returns-then-res-lt2 : goal.returns-then-res-lt2
returns-then-res-lt2 c = steps_short _ _ c.if-res-lt2.true

pub returns-in-Ok : goal.returns-in-Ok
returns-in-Ok c =
    steps_told c.args.sheet.now _ c.if-res-lt2.false c.steps.ensures (rw (c.in-Ok.is, c.put.ensures))

pub returns-in-Err : goal.returns-in-Err
returns-in-Err c =
    steps_told c.args.sheet.now _ c.if-res-lt2.false c.steps.ensures (rw (c.in-Err.is, c.put-in-Err.ensures, c.number.ensures))

use Rattle.tejborun.proofs.SheetLaws.{meaning_short, meaning_told}
use Rattle.tejborun.proofs.sheets.tejborun_meaning.Goals as goal

pub returns-then-res-lt2 : goal.returns-then-res-lt2
returns-then-res-lt2 c = meaning_short _ _ _ _ c.if-res-lt2.true

pub returns-in-Ok : goal.returns-in-Ok
returns-in-Ok c =
    meaning_told _ _ _ _ c.if-res-lt2.false c.meaning.ensures (rw (c.in-Ok.is, c.put.ensures))

pub returns-in-Err : goal.returns-in-Err
returns-in-Err c =
    meaning_told _ _ _ _ c.if-res-lt2.false c.meaning.ensures (rw (c.in-Err.is, c.put-in-Err.ensures, c.number.ensures))

use Rattle.diagnosis.proofs.WhyLaws.{room_lacking, room_enough}
use Rattle.diagnosis.proofs.telling.outlook.Goals as goal

pub returns-then-free_entries-needed : goal.returns-then-free_entries-needed
returns-then-free_entries-needed c =
    rw c.in-Ok.is (room_lacking _ _ _ c.requires c.free_entries.ensures c.if-free_entries-needed.true)

pub returns-else-free_entries-needed : goal.returns-else-free_entries-needed
returns-else-free_entries-needed c =
    rw c.in-Ok.is (room_enough _ _ _ c.requires c.free_entries.ensures c.if-free_entries-needed.false)

pub returns-in-Err : goal.returns-in-Err
returns-in-Err c = rw c.in-Err.is

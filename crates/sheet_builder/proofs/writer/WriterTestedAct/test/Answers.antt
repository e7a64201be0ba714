use Rattle.sheet_builder.proofs.WriterLaws.{write_short, write_enough}
use Rattle.sheet_builder.proofs.writer.WriterTestedAct.test.Goals as goal

pub returns-then-room-sums : goal.returns-then-room-sums
returns-then-room-sums c = write_short _ _ _ c.saturating_sub.ensures c.if-room-sums.true

pub returns : goal.returns
returns c = write_enough _ _ _ c.saturating_sub.ensures c.if-room-sums.false

use Rattle.salvage.proofs.AnswerLaws.{refuses_long, measured_kept, measured_ranges, has_room, written}
use Rattle.salvage.proofs.writing.salvage.Goals as goal

pub returns-then-sheet-gt-LONGEST : goal.returns-then-sheet-gt-LONGEST
returns-then-sheet-gt-LONGEST c = refuses_long _ _ _ c.if-sheet-gt-LONGEST.true

pub returns-then-output-sums : goal.returns-then-output-sums
returns-then-output-sums c =
    measured_kept _ _ _ c.if-sheet-gt-LONGEST.false c.measure-sums.ensures c.if-output-sums.true

pub returns-then-ranges-sums : goal.returns-then-ranges-sums
returns-then-ranges-sums c =
    measured_ranges _ _ _ c.if-sheet-gt-LONGEST.false c.measure-sums.ensures c.if-output-sums.false c.if-ranges-sums.true

pub write-requires : goal.write-requires
write-requires c =
    has_room _ _ _ c.if-sheet-gt-LONGEST.false c.measure-sums.ensures c.if-output-sums.false c.if-ranges-sums.false

pub returns : goal.returns
returns c =
    written _ _ _ c.if-sheet-gt-LONGEST.false c.measure-sums.ensures c.if-output-sums.false c.if-ranges-sums.false c.write.ensures.0 c.write.ensures.1

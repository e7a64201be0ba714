use borrow.Author.Tests.{le-leb}
use Rattle.fields.specs.Fields.{if}
use Rattle.sheet.specs.Reader.{reading_at}
use Rattle.sheet.proofs.reader.read_record.Goals as goal

pub returns-then-sheet-at : goal.returns-then-sheet-at
unfolding reading_at if
returns-then-sheet-at c = rw (le-leb _ _ c.if-sheet-at.true)

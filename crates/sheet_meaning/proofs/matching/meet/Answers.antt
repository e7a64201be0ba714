use Rattle.fields.specs.Fields.{if}
use Rattle.sheet_meaning.specs.Met.{met}
use Rattle.sheet_meaning.proofs.matching.meet.Goals as goal

pub returns-then-front : goal.returns-then-front
unfolding met if
returns-then-front c = rw c.if-front.true c.next_front.ensures

pub returns-else-front : goal.returns-else-front
unfolding met if
returns-else-front c = rw c.if-front.false

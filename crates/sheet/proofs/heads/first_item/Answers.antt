use Rattle.fields.specs.Fields.{if}
use Rattle.sheet.specs.Acts.{first_item}
use Rattle.sheet.proofs.heads.first_item.Goals as goal

pub returns-then-starts_second : goal.returns-then-starts_second
unfolding first_item if
returns-then-starts_second c = rw (← c.starts_second.ensures, c.if-starts_second.true)

pub returns-else-starts_second : goal.returns-else-starts_second
unfolding first_item if
returns-else-starts_second c = rw (← c.starts_second.ensures, c.if-starts_second.false)

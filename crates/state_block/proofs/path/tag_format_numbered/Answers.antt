use Rattle.fields.specs.Fields.{if}
use Rattle.state_block.specs.Words.{numbered}
use Rattle.state_block.specs.PathBlock.{tag_format_numbered}
use Rattle.state_block.proofs.path.tag_format_numbered.Goals as goal

pub returns-in-0 : goal.returns-in-0
unfolding tag_format_numbered numbered if
returns-in-0 c = rw c.in-0.is

pub returns-in-1 : goal.returns-in-1
unfolding tag_format_numbered numbered if
returns-in-1 c = rw c.in-1.is

pub returns-in-2 : goal.returns-in-2
unfolding tag_format_numbered numbered if
returns-in-2 c = rw c.in-2.is

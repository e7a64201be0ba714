use borrow.Author.Tests.{lt-ltb, le-ltb}
use Rattle.fields.specs.Fields.{if}
use Rattle.gif.proofs.TagLaws.{nibble_descriptor}
use Rattle.gif.proofs.reglist.second_descriptor.Goals as goal

pub returns-then-item-tag : goal.returns-then-item-tag
unfolding if
returns-then-item-tag c =
    simp (lt-ltb _ _ c.if-item-tag.true) (nibble_descriptor c.args.tag c.args.item c.requires.1 c.descriptor_in.ensures)

pub returns-else-item-tag : goal.returns-else-item-tag
unfolding if
returns-else-item-tag c = simp (le-ltb _ _ c.if-item-tag.false)

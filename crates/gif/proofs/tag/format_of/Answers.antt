use Rattle.gif.specs.Tag.{format_of}
use Rattle.fields.specs.Fields.{if}
use borrow.Author.Tests.{ne_eqb}
use Rattle.gif.proofs.tag.format_of.Goals as goal

pub returns-in-0 : goal.returns-in-0
unfolding format_of if
returns-in-0 c = simp c.in-0.is

pub returns-in-1 : goal.returns-in-1
unfolding format_of if
returns-in-1 c = simp c.in-1.is

pub returns-in_default : goal.returns-in_default
unfolding format_of if
returns-in_default c = simp (ne_eqb _ _ c.in_default.in_default-own.rest.1, ne_eqb _ _ c.in_default.in_default-own.rest.0.1)

use Rattle.gif.proofs.TagLaws.{nloop_at}
use Rattle.gif.specs.Tag.{place_at_tag}
use Rattle.fields.specs.Fields.{if}
use borrow.Author.Tests.{eq-eqb, ne_eqb}
use borrow.Author.Rules.{rules}
use Rattle.gif.proofs.tag.place_at_tag.Goals as goal

pub returns-then-quad-eq0 : goal.returns-then-quad-eq0
unfolding place_at_tag if
returns-then-quad-eq0 c = simp (nloop_at c.args.quad.low c.args.quad.high (search rules), eq-eqb _ _ c.if-quad-eq0.true)

pub returns-else-quad-eq0 : goal.returns-else-quad-eq0
unfolding place_at_tag if
returns-else-quad-eq0 c = rw (nloop_at c.args.quad.low c.args.quad.high (search rules), ne_eqb _ _ c.if-quad-eq0.false, c.tag_of.ensures)

use Rattle.chain.proofs.StepLaws.{by_payload, stepped_as}
use Rattle.chain.proofs.ReadyLaws.{tadr_below, payload_ready}
use Rattle.fields.specs.Fields.{if}
use borrow.Author.Tests.{eq-eqb, ne_eqb}
use mathlib.Core.Path.{refl, ◌∙◌}
use Rattle.chain.proofs.step.take_payload_or_tag.Goals as goal

pub take_tag-requires : goal.take_tag-requires
take_tag-requires c = tadr_below c.requires.0

pub take_tag-requires-then-count-eq0 : goal.take_tag-requires-then-count-eq0
take_tag-requires-then-count-eq0 c = tadr_below c.requires.0

pub take_payload-requires : goal.take_payload-requires
take_payload-requires c = (c.requires.0, payload_ready c.requires.0 (c.requires.1 ∙ c.in-Words.is) c.if-count-eq0.false)

pub returns-in-Nothing : goal.returns-in-Nothing
returns-in-Nothing c = by_payload c.in-Nothing.is _ _ _ (stepped_as c.take_tag.ensures _ refl)

pub returns-then-count-eq0 : goal.returns-then-count-eq0
unfolding if
returns-then-count-eq0 c =
    by_payload c.in-Words.is _ _ _ (stepped_as c.take_tag-then-count-eq0.ensures _ (rw (eq-eqb _ _ c.if-count-eq0.true)))

pub returns-else-count-eq0 : goal.returns-else-count-eq0
unfolding if
returns-else-count-eq0 c = by_payload c.in-Words.is _ _ _ (rw (ne_eqb _ _ c.if-count-eq0.false) c.take_payload.ensures)

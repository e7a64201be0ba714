use borrow.Author.Tests.{eq-eqb, ne_eqb}
use Rattle.fields.specs.Fields.{if}
use Rattle.sheet.specs.Editions.{edition_refusal}
use Rattle.sheet.proofs.heads.test_edition.Goals as goal

pub returns-then-count_at-ne2 : goal.returns-then-count_at-ne2
unfolding edition_refusal if
returns-then-count_at-ne2 c = rw (← c.count_at.ensures, ne_eqb _ _ c.if-count_at-ne2.true)

pub returns-then-address_at-ne0 : goal.returns-then-address_at-ne0
unfolding edition_refusal if
returns-then-address_at-ne0 c =
    rw (← c.count_at.ensures, eq-eqb _ _ c.if-count_at-ne2.false, ← c.address_at.ensures, ne_eqb _ _ c.if-address_at-ne0.true)

pub returns : goal.returns
unfolding edition_refusal if
returns c =
    rw (← c.count_at.ensures, eq-eqb _ _ c.if-count_at-ne2.false, ← c.address_at.ensures, eq-eqb _ _ c.if-address_at-ne0.false)

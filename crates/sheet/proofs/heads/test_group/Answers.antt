use borrow.Author.Tests.{eq-eqb, ne_eqb}
use Rattle.fields.specs.Fields.{if}
use Rattle.sheet.specs.Groups.{group_refusal}
use Rattle.sheet.proofs.heads.test_group.Goals as goal

pub returns-then-count_at-eq0 : goal.returns-then-count_at-eq0
unfolding group_refusal if
returns-then-count_at-eq0 c = rw (← c.count_at.ensures, eq-eqb _ _ c.if-count_at-eq0.true)

pub returns-then-address_at-eq0 : goal.returns-then-address_at-eq0
unfolding group_refusal if
returns-then-address_at-eq0 c = rw (← c.count_at.ensures, ne_eqb _ _ c.if-count_at-eq0.false, ← c.address_at.ensures, eq-eqb _ _ c.if-address_at-eq0.true)

pub returns-then-depth-eq0 : goal.returns-then-depth-eq0
unfolding group_refusal if
returns-then-depth-eq0 c = rw (← c.count_at.ensures, ne_eqb _ _ c.if-count_at-eq0.false, ← c.address_at.ensures, ne_eqb _ _ c.if-address_at-eq0.false, eq-eqb _ _ c.if-depth-eq0.true)

pub returns : goal.returns
unfolding group_refusal if
returns c = rw (← c.count_at.ensures, ne_eqb _ _ c.if-count_at-eq0.false, ← c.address_at.ensures, ne_eqb _ _ c.if-address_at-eq0.false, ne_eqb _ _ c.if-depth-eq0.false)

use borrow.Author.Tests.{eq-eqb, ne_eqb, lt-ltb}
use Rattle.fields.specs.Fields.{if}
use Rattle.supplier.specs.Inner.{entries_difference}
use Rattle.supplier.proofs.CheckLaws.{not_both}
use Rattle.supplier.proofs.judging.entries_verdict.Goals as goal

pub returns-then-front : goal.returns-then-front
unfolding entries_difference if
returns-then-front c = rw (lt-ltb _ _ c.if-front-used.true, lt-ltb _ _ c.if-front.true)

pub returns-then-used-front : goal.returns-then-used-front
unfolding entries_difference if
returns-then-used-front c = rw (not_both c.else-front-used.either, ne_eqb _ _ c.if-used-front.true)

pub returns : goal.returns
unfolding entries_difference if
returns c = rw (not_both c.else-front-used.either, eq-eqb _ _ c.if-used-front.false)

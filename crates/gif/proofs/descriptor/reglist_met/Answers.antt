use native.Mathlib.Omega.{arith}
use borrow.Author.Tests.{eq-eqb, ne_eqb}
use Rattle.fields.specs.Fields.{if}
use Rattle.gif.proofs.TagLaws.{taken_most}
use Rattle.gif.specs.Met.{reglist_met}
use Rattle.gif.proofs.descriptor.reglist_met.Goals as goal

pub overflow_mul-item : goal.overflow_mul-item
overflow_mul-item c = let m = taken_most c.args.tag c.requires in omega (arith, c.taken-item.ensures)

pub returns-then-first-eq11 : goal.returns-then-first-eq11
unfolding reglist_met if
returns-then-first-eq11 c =
    let met = c.descriptor_at-first.ensures in
    rw (← c.taken-item.ensures, ← met, eq-eqb _ _ c.if-first-eq11.true)

pub overflow_add-item : goal.overflow_add-item
overflow_add-item c =
    let m = taken_most c.args.tag c.requires in omega (arith, c.taken-item.ensures)

pub returns-else-first-eq11 : goal.returns-else-first-eq11
unfolding reglist_met if
returns-else-first-eq11 c =
    let met = c.descriptor_at-first.ensures in
    rw (← c.taken-item.ensures, ← met, ne_eqb _ _ c.if-first-eq11.false) c.descriptor_at.ensures

use Rattle.gif.proofs.TagLaws.{taken_most}
use Rattle.gif.proofs.DataLaws.{reglist_refused_lem, reglist_taken}
use borrow.Author.Tests.{eq-eqb, ne_eqb}
use borrow.Author.Rules.{rules}
use native.Mathlib.Omega.{arith}
use Rattle.gif.proofs.step.take_reglist.Goals as goal

pub overflow_mul-item : goal.overflow_mul-item
overflow_mul-item c = let m = taken_most c.args.tag c.requires.1 in omega (arith, c.taken-item.ensures)

pub overflow_add-item : goal.overflow_add-item
overflow_add-item c =
    let m = taken_most c.args.tag c.requires.1 in
    omega (arith, c.taken-item.ensures)

pub overflow_add-item-2 : goal.overflow_add-item-2
overflow_add-item-2 c =
    let m = taken_most c.args.tag c.requires.1 in
    omega (arith, c.taken-item.ensures)

pub returns-then-first-eq11 : goal.returns-then-first-eq11
returns-then-first-eq11 c =
    reglist_refused_lem _ _ _ _ _ _ _ c.taken-item.ensures c.descriptor_at-first.ensures c.second_descriptor-second.ensures (simp (eq-eqb _ _ c.if-first-eq11.true)) c.refuse.ensures

pub returns-then-second-eq11 : goal.returns-then-second-eq11
returns-then-second-eq11 c =
    reglist_refused_lem _ _ _ _ _ _ _ c.taken-item.ensures c.descriptor_at-first.ensures c.second_descriptor-second.ensures (simp (ne_eqb _ _ c.if-first-eq11.false, eq-eqb _ _ c.if-second-eq11.true)) c.refuse-then-second-eq11.ensures

pub returns : goal.returns
returns c =
    reglist_taken _ _ _ _ _ _ _ c.taken-item.ensures c.descriptor_at-first.ensures c.second_descriptor-second.ensures (simp (ne_eqb _ _ c.if-first-eq11.false, ne_eqb _ _ c.if-second-eq11.false)) (search rules) (search rules) c.halves-writes.ensures c.finish_data.ensures

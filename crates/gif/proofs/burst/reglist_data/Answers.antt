use mathlib.Core.Path.{refl}
use native.Mathlib.Nat.{add-zero}
use native.Mathlib.Omega.{arith}
use borrow.Author.Rules.{rules}
use Rattle.gif.proofs.TagLaws.{taken_most, due_most, nibble_next}
use Rattle.gif.proofs.BurstLaws.{none_came, reglist_came, came_all, came_end}
use Rattle.gif.proofs.burst.reglist_data.Goals as goal

pub overflow_mul-item : goal.overflow_mul-item
overflow_mul-item c = let m = taken_most c.args.tag c.requires.0.held in omega (arith, c.taken-item.ensures)

pub loop-k-init : goal.loop-k-init
loop-k-init c = record { came = none_came _ _ _ _ _ _ _ _ c.requires.0; at = rw add-zero }

pub overflow_add-item : goal.overflow_add-item
overflow_add-item c =
    let g = c.requires.0 in
    let m = taken_most c.args.tag g.held in
    let d = due_most c.args.tag g.held in
    omega (arith, c.taken-item.ensures, g.due)

pub overflow_add-item-in-loop-k : goal.overflow_add-item-in-loop-k
overflow_add-item-in-loop-k c =
    let g = c.requires.0 in
    let m = taken_most c.args.tag g.held in
    let d = due_most c.args.tag g.held in
    omega (arith, c.taken-item.ensures, g.due)

pub second_descriptor-second-requires : goal.second_descriptor-second-requires
second_descriptor-second-requires c =
    (c.requires.0.held, nibble_next _ _ refl c.loop-k.invariant.at c.next_nibble-upper.ensures)

pub loop-k-preserved : goal.loop-k-preserved
loop-k-preserved c =
    let i = c.loop-k.invariant in
    let s = c.append-entries.ensures in
    record {
      came =
          reglist_came _ _ _ _ _ _ _ _ c.requires.0 i.came c.loop-k-test.true c.quadword-quad.ensures (search rules) (search rules) c.halves.result s.0 s.1 c.requires.1
          (omega (arith, c.taken-item.ensures)) i.at c.descriptor_in-first.ensures c.second_descriptor-second.ensures c.if-first-eq11.false c.if-second-eq11.false c.halves.ensures;
      at = nibble_next _ _ (omega arith) (nibble_next _ _ refl i.at c.next_nibble-upper.ensures) c.next_nibble-nibble.ensures;
    }

pub returns : goal.returns
returns c = came_end _ _ _ _ _ _ _ _ c.requires.0 c.loop-k.invariant.came c.loop-k-test.false c.data_result-2.ensures

pub returns-then-first-eq11 : goal.returns-then-first-eq11
returns-then-first-eq11 c = came_all _ _ _ _ _ _ _ _ c.requires.0 c.loop-k.invariant.came c.data_result.ensures

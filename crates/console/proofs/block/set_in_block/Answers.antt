use native.Mathlib.Omega.{arith}
use Rattle.console.proofs.BlockLaws.{known_length, number_inside, number_refused, unit_refused, none_refused, waiting_refused, number_set_lem}
use Rattle.console.proofs.block.set_in_block.Goals as goal

pub returns-then-number-gt7 : goal.returns-then-number-gt7
returns-then-number-gt7 c = number_refused _ _ _ _ c.if-number-gt7.true

pub returns-then-unit-gt1 : goal.returns-then-unit-gt1
returns-then-unit-gt1 c = unit_refused _ _ _ _ c.if-number-gt7.false c.if-unit-gt1.true

pub returns-in_default : goal.returns-in_default
returns-in_default c = none_refused _ _ _ _ c.if-number-gt7.false c.if-unit-gt1.false c.in_default.ensures

pub returns-then-is_waiting : goal.returns-then-is_waiting
returns-then-is_waiting c =
    waiting_refused _ _ _ _ c.if-number-gt7.false c.if-unit-gt1.false c.in-Some.ensures c.unit_of.ensures c.held_by.ensures c.is_waiting.ensures c.if-is_waiting.true

pub offset_bounds-block-number_at : goal.offset_bounds-block-number_at
offset_bounds-block-number_at c =
    let z = number_inside _ _ c.if-number-gt7.false c.number_at.ensures in
    omega arith

pub bounds-block-number_at : goal.bounds-block-number_at
bounds-block-number_at c =
    let z = number_inside _ _ c.if-number-gt7.false c.number_at.ensures in
    let l = known_length _ c.in-Some.ensures in
    omega arith

pub returns : goal.returns
returns c =
    number_set_lem _ _ _ _ c.if-number-gt7.false c.if-unit-gt1.false c.in-Some.ensures c.unit_of.ensures c.held_by.ensures c.is_waiting.ensures c.if-is_waiting.false
    c.number_at.ensures

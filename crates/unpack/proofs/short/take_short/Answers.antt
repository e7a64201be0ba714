use native.Mathlib.Omega.{arith}
use Rattle.unpack_rules.proofs.CycleLaws.{done_most}
use Rattle.unpack.proofs.ShortLaws.{word_waits, word_short, numbers}
use Rattle.unpack.proofs.short.take_short.Goals as goal

pub returns-then-u-ne1 : goal.returns-then-u-ne1
returns-then-u-ne1 c = word_waits _ c.requires c.if-u-ne1.true

pub overflow_sub-v : goal.overflow_sub-v
overflow_sub-v c = let n = numbers c.requires in omega (arith, c.vectors_before.ensures)

pub overflow_sub-v-2 : goal.overflow_sub-v-2
overflow_sub-v-2 c =
    let n = numbers c.requires in
    omega (arith, c.vectors_before.ensures, c.if-u-ne1.false)

pub writes_done-requires : goal.writes_done-requires
writes_done-requires c =
    let x = c.requires in
    let n = numbers x in
    let v = c.vectors_before.ensures in
    (x.cycle, n.cycle, omega arith, omega arith)

pub writes_done-requires-2 : goal.writes_done-requires-2
writes_done-requires-2 c =
    let x = c.requires in
    let n = numbers x in
    let v = c.vectors_before.ensures in
    let l = c.if-u-ne1.false in
    (x.cycle, n.cycle, omega arith, omega arith)

pub store_each-requires : goal.store_each-requires
store_each-requires c =
    let x = c.requires in
    (x.cycle, x.memory, x.unpacking.inside, done_most _ _ _ _ x.cycle.some (numbers x).few c.writes_done-2.ensures)

pub returns : goal.returns
returns c =
    word_short _ c.requires c.if-u-ne1.false (rw c.vectors_before.ensures) c.writes_done.ensures c.writes_done-2.ensures c.four-words.ensures c.store_each.ensures

use native.Mathlib.Omega.{arith}
use Rattle.unpack.proofs.ShortLaws.{numbers, copy_fits, vectors_after}
use Rattle.unpack.proofs.short.copy_vectors.Goals as goal

pub overflow_sub-v : goal.overflow_sub-v
overflow_sub-v c = let n = numbers c.requires.0 in omega (arith, c.vectors_before.ensures)

pub writes_done-requires : goal.writes_done-requires
writes_done-requires c =
    let x = c.requires.0 in
    let n = numbers x in
    let v = c.vectors_before.ensures in
    (x.cycle, n.cycle, omega arith, omega arith)

pub writes_done-requires-2 : goal.writes_done-requires-2
writes_done-requires-2 c =
    let p = c.requires in
    let x = p.0 in
    let n = numbers x in
    let v = c.vectors_before.ensures in
    let f = p.2 in
    (x.cycle, n.cycle, omega arith, omega arith)

pub copy_writes-requires : goal.copy_writes-requires
copy_writes-requires c =
    let p = c.requires in
    copy_fits p.0 p.1 p.2 p.3 p.4 (rw c.vectors_before.ensures) c.writes_done.ensures c.writes_done-2.ensures

pub returns : goal.returns
returns c =
    let p = c.requires in
    λ begun e.
    vectors_after _ _ _ (λ j. let y = c.shared_slice_known-1.given j in omega arith) p.0 e p.1 p.2 (rw c.vectors_before.ensures) c.writes_done.ensures c.writes_done-2.ensures c.copy_writes.ensures

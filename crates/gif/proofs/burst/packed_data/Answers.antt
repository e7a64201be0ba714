use native.Mathlib.Nat.{add-zero}
use native.Mathlib.Omega.{arith}
use borrow.Author.Rules.{rules}
use Rattle.gif.proofs.TagLaws.{nibble_next}
use Rattle.gif.proofs.BurstLaws.{none_came, packed_came, came_all, came_end}
use Rattle.gif.proofs.burst.packed_data.Goals as goal

pub loop-k-init : goal.loop-k-init
loop-k-init c =
    record { came = none_came _ _ _ _ _ _ _ _ c.requires.0; at = rw (c.taken.ensures, add-zero) }

pub loop-k-preserved : goal.loop-k-preserved
loop-k-preserved c =
    let i = c.loop-k.invariant in
    let s = c.append-entries.ensures in
    record {
      came =
          packed_came _ _ _ _ _ _ _ _ c.requires.0 i.came c.loop-k-test.true c.quadword-quad.ensures (search rules) (search rules) c.often_writes-writes.result s.0 s.1 c.requires.1
          i.at c.descriptor_in-descriptor.ensures c.if-descriptor-eq11.false c.packed_q-latest.ensures c.often_writes-writes.ensures;
      at = nibble_next _ _ (omega arith) i.at c.next_nibble-nibble.ensures;
    }

pub returns : goal.returns
returns c = came_end _ _ _ _ _ _ _ _ c.requires.0 c.loop-k.invariant.came c.loop-k-test.false c.data_result-2.ensures

pub returns-then-descriptor-eq11 : goal.returns-then-descriptor-eq11
returns-then-descriptor-eq11 c = came_all _ _ _ _ _ _ _ _ c.requires.0 c.loop-k.invariant.came c.data_result.ensures

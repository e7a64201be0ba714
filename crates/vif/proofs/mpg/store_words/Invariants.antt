use mathlib.Core.Path.{◌≡◌}
use Prim.Native.Nat.{◌+◌, ◌*◌, ◌-◌, ◌≤◌}
use Rattle.vif.specs.Inner.{stored_words}
use Rattle.vif.proofs.mpg.store_words.Given as goal

abbrev pub invariant-loop-k : goal.invariant-loop-k
invariant-loop-k l =
    record {
      few : l.k ≤ l.n;
      same : stored_words l.size l.address l.main (l.n - l.k) (l.first + l.k) (l.a + 4 * l.k) l.code ≡ stored_words l.size l.address l.main l.n l.first l.a l.initial.code;
    }

abbrev pub decreases-loop-k : goal.decreases-loop-k
decreases-loop-k l = l.n - l.k

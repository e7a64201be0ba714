use mathlib.Core.Path.{◌≡◌}
use Prim.Native.Nat.{◌+◌, ◌*◌, ◌-◌, ◌≤◌}
use lib.ListN.{length}
use Rattle.unpack.specs.Short.{copy_words}
use Rattle.unpack.proofs.copy.copy_words.Given as goal

abbrev pub invariant-loop-j : goal.invariant-loop-j
invariant-loop-j l =
    record {
      sizes : length l.data ≡ length l.initial.data;
      few : l.j ≤ l.n;
      same : copy_words l.main (l.n - l.j) (l.a + 4 * l.j) (l.to + l.j) l.data ≡ copy_words l.main l.n l.a l.to l.initial.data;
    }

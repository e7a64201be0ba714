use mathlib.Core.Path.{◌≡◌}
use Prim.Native.Nat.{ℕ, suc, ◌+◌, ◌*◌, ◌-◌, ◌%◌, ◌≤◌}
use lib.ListN.{length}
use Rattle.unpack.specs.Short.{stores_from, quad_from}
use Rattle.unpack.proofs.copy.copy_runs.Given as goal

abbrev pub invariant-loop-i : goal.invariant-loop-i
invariant-loop-i l =
    record {
      sizes : length l.data ≡ length l.initial.data;
      late : l.w.first ≤ l.i;
      few : l.i ≤ l.w.last;
      byte : l.at + 16 * l.w.first ≡ l.a + 16 * l.i;
      same :
          stores_from (λ (i : ℕ). (l.w.address + i) % l.w.size) (λ (i : ℕ). quad_from l.main (l.a + 16 * suc i - 16 * suc l.w.first)) (l.w.last - l.i) l.i l.data
          ≡ stores_from (λ (i : ℕ). (l.w.address + i) % l.w.size) (λ (i : ℕ). quad_from l.main (l.a + 16 * suc i - 16 * suc l.w.first)) (l.w.last - l.w.first) l.w.first l.initial.data;
    }

abbrev pub decreases-loop-i : goal.decreases-loop-i
decreases-loop-i l = l.w.last - l.i

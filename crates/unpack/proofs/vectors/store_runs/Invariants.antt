use mathlib.Core.Path.{◌≡◌}
use Prim.Native.Nat.{ℕ, ◌+◌, ◌*◌, ◌-◌, ◌%◌, ◌≤◌}
use lib.ListN.{length}
use Rattle.unpack.specs.Short.{stores_from}
use Rattle.unpack.specs.Vectors.{vector_bytes, vector_from}
use Rattle.unpack.proofs.vectors.store_runs.Given as goal

abbrev pub invariant-loop-i : goal.invariant-loop-i
invariant-loop-i l =
    record {
      sizes : length l.data ≡ length l.initial.data;
      late : l.w.first ≤ l.i;
      few : l.i ≤ l.w.last;
      byte : l.at ≡ l.a + vector_bytes l.f * (l.i - l.w.first);
      same :
          stores_from (λ (i : ℕ). (l.w.address + i) % l.w.size) (vector_from l.f l.usn l.main l.a l.w.first) (l.w.last - l.i) l.i l.data
          ≡ stores_from (λ (i : ℕ). (l.w.address + i) % l.w.size) (vector_from l.f l.usn l.main l.a l.w.first) (l.w.last - l.w.first) l.w.first l.initial.data;
    }

abbrev pub decreases-loop-i : goal.decreases-loop-i
decreases-loop-i l = l.w.last - l.i

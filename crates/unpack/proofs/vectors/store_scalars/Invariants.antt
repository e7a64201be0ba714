use mathlib.Core.Path.{◌≡◌}
use Prim.Native.Nat.{ℕ, ◌+◌, ◌*◌, ◌-◌, ◌≤◌}
use lib.ListN.{length}
use Rattle.unpack.specs.Short.{stores_from}
use Rattle.unpack.specs.Vectors.{vector_bytes, vector_from}
use Rattle.unpack.proofs.vectors.store_scalars.Given as goal

abbrev pub invariant-loop-j : goal.invariant-loop-j
invariant-loop-j l =
    record {
      sizes : length l.data ≡ length l.initial.data;
      few : l.j ≤ l.n;
      byte : l.at ≡ l.a + vector_bytes l.f * l.j;
      same :
          stores_from (λ (i : ℕ). l.to + i) (vector_from l.f l.usn l.main l.a 0) (l.n - l.j) l.j l.data
          ≡ stores_from (λ (i : ℕ). l.to + i) (vector_from l.f l.usn l.main l.a 0) l.n 0 l.initial.data;
    }

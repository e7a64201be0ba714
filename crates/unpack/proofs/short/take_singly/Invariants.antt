use mathlib.Core.Path.{◌≡◌}
use mathlib.Core.List.{List}
use Prim.Native.Nat.{ℕ, ◌+◌, ◌*◌, ◌-◌, ◌≤◌}
use lib.ListN.{length}
use Rattle.unpack_rules.specs.declared.Format.TheVariants.{V4x32}
use Rattle.unpack_rules.specs.Write.{written}
use Rattle.unpack_rules.specs.Whole.{words_from, taken_by}
use Rattle.unpack.specs.Short.{ShortFits}
use Rattle.unpack.proofs.short.take_singly.Given as goal

abbrev pub invariant-loop-k : goal.invariant-loop-k
invariant-loop-k l =
    record {
      fits : ShortFits l.size l.rest l.r l.data;
      sizes : length l.data ≡ length l.initial.data;
      few : l.k ≤ l.n;
      left : l.rest.due + l.k ≡ l.initial.rest.due;
      same :
          (row : List ℕ) → length row ≡ 4
          → taken_by l.size V4x32 l.rest l.r (words_from l.main (l.a + 4 * l.k) (l.n - l.k)) (written row l.data)
          ≡ taken_by l.size V4x32 l.initial.rest l.r (words_from l.main l.a l.n) (written row l.initial.data);
    }

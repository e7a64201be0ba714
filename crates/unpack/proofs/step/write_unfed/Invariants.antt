use mathlib.Core.Path.{◌≡◌}
use mathlib.Core.List.{[]}
use Prim.Native.Nat.{◌-◌}
use lib.ListN.{length}
use Rattle.unpack_rules.specs.Mask.{unfolded}
use Rattle.unpack_rules.specs.Write.{written, writes_from}
use Rattle.unpack_rules.specs.Inner.{UnfedFits}
use Rattle.unpack.proofs.step.write_unfed.Given as goal

abbrev pub invariant-loop-i : goal.invariant-loop-i
invariant-loop-i l =
    record {
      fits : UnfedFits l.size l.fn.u l.r l.data;
      length : length l.data ≡ length l.initial.data;
      codes : l.codes ≡ unfolded l.r.mask;
      col : l.col ≡ l.r.col;
      same :
          writes_from l.size l.fn.u.address l.r (λ j. []) (l.fn.u.count - l.i) l.i (written l.row l.data)
          ≡ writes_from l.size l.fn.u.address l.r (λ j. []) l.fn.u.count 0 (written l.row l.initial.data);
    }

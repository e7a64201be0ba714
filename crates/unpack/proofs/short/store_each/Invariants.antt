use mathlib.Core.Path.{◌≡◌}
use Prim.Native.Nat.{ℕ, ◌-◌}
use lib.ListN.{length}
use Rattle.unpack_rules.specs.Position.{position_of}
use Rattle.unpack.specs.Short.{stores_from}
use Rattle.unpack.proofs.short.store_each.Given as goal

abbrev pub invariant-loop-i : goal.invariant-loop-i
invariant-loop-i l =
    record {
      sizes : length l.data ≡ length l.initial.data;
      same :
          stores_from (position_of l.w.size l.w.address l.w.registers.cl l.w.registers.wl) (λ (i : ℕ). l.words) (l.w.last - l.i) l.i l.data
          ≡ stores_from (position_of l.w.size l.w.address l.w.registers.cl l.w.registers.wl) (λ (i : ℕ). l.words) (l.w.last - l.w.first) l.w.first l.initial.data;
    }

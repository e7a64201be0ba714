use mathlib.Core.Path.{◌≡◌}
use Prim.Native.Nat.{suc, ◌+◌, ◌-◌, ◌%◌, ◌<◌}
use lib.ListN.{length}
use Rattle.unpack_rules.specs.Position.{vectors_before, position_of}
use Rattle.unpack.specs.Short.{stores_from}
use Rattle.unpack.specs.Vectors.{vector_of}
use Rattle.unpack.proofs.vectors.store_apart.Given as goal

abbrev pub invariant-loop-i : goal.invariant-loop-i
invariant-loop-i l =
    record {
      sizes : length l.data ≡ length l.initial.data;
      place : l.quad ≡ position_of l.w.size l.w.address l.w.registers.cl l.w.registers.wl l._i;
      below : l.quad < l.w.size;
      turn : l.cycle ≡ l._i % l.w.registers.wl;
      short : l.cycle < l.w.registers.wl;
      vector : l.index + suc (vectors_before l.w.registers.cl l.w.registers.wl l.w.first) ≡ vectors_before l.w.registers.cl l.w.registers.wl (suc l._i);
      same :
          stores_from (position_of l.w.size l.w.address l.w.registers.cl l.w.registers.wl) (vector_of l.xs l.w.registers.cl l.w.registers.wl l.w.first) (l.w.last - l._i) l._i l.data
          ≡ stores_from (position_of l.w.size l.w.address l.w.registers.cl l.w.registers.wl) (vector_of l.xs l.w.registers.cl l.w.registers.wl l.w.first) (l.w.last - l.w.first) l.w.first l.initial.data;
    }

use mathlib.Core.Path.{◌≡◌}
use Prim.Native.Nat.{suc, ◌+◌, ◌*◌, ◌-◌, ◌%◌, ◌≤◌, ◌<◌}
use lib.ListN.{length}
use Rattle.unpack_rules.specs.Position.{vectors_before, position_of}
use Rattle.unpack.specs.Short.{stores_from, words_of_write}
use Rattle.unpack.proofs.copy.copy_apart.Given as goal

abbrev pub invariant-loop-i : goal.invariant-loop-i
invariant-loop-i l =
    record {
      sizes : length l.data ≡ length l.initial.data;
      few : l._i ≤ l.w.last;
      place : l.quad ≡ position_of l.w.size l.w.address l.w.registers.cl l.w.registers.wl l._i;
      below : l.quad < l.w.size;
      turn : l.cycle ≡ l._i % l.w.registers.wl;
      short : l.cycle < l.w.registers.wl;
      byte : l.at + 16 * suc (vectors_before l.w.registers.cl l.w.registers.wl l.w.first) ≡ l.a + 16 * vectors_before l.w.registers.cl l.w.registers.wl (suc l._i);
      same :
          stores_from (position_of l.w.size l.w.address l.w.registers.cl l.w.registers.wl) (words_of_write l.main l.a l.w.registers.cl l.w.registers.wl l.w.first) (l.w.last - l._i) l._i l.data
          ≡ stores_from (position_of l.w.size l.w.address l.w.registers.cl l.w.registers.wl) (words_of_write l.main l.a l.w.registers.cl l.w.registers.wl l.w.first) (l.w.last - l.w.first) l.w.first l.initial.data;
    }

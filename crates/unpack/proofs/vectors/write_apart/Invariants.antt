use mathlib.Core.Path.{◌≡◌}
use Prim.Native.Nat.{ℕ, suc, ◌+◌, ◌-◌, ◌%◌, ◌<◌}
use lib.ListN.{length}
use Rattle.unpack_rules.specs.Position.{vectors_before, position_of}
use Rattle.unpack_rules.specs.Mask.{unfolded}
use Rattle.unpack_rules.specs.Write.{written, writes_from}
use Rattle.unpack.specs.Vectors.{quad_of}
use Rattle.unpack.proofs.vectors.write_apart.Given as goal

abbrev pub invariant-loop-i : goal.invariant-loop-i
invariant-loop-i l =
    record {
      sizes : length l.data ≡ length l.initial.data;
      codes : l.codes ≡ unfolded l.w.registers.mask;
      col : l.col ≡ l.w.registers.col;
      place : l.quad ≡ position_of l.w.size l.w.address l.w.registers.cl l.w.registers.wl l._i;
      below : l.quad < l.w.size;
      turn : l.cycle ≡ l._i % l.w.registers.wl;
      short : l.cycle < l.w.registers.wl;
      vector : l.index + suc (vectors_before l.w.registers.cl l.w.registers.wl l.w.first) ≡ vectors_before l.w.registers.cl l.w.registers.wl (suc l._i);
      same :
          writes_from l.w.size l.w.address l.w.registers (λ (v : ℕ). quad_of l.xs (v - vectors_before l.w.registers.cl l.w.registers.wl l.w.first)) (l.w.last - l._i) l._i (written l.rows l.data)
          ≡ writes_from l.w.size l.w.address l.w.registers (λ (v : ℕ). quad_of l.xs (v - vectors_before l.w.registers.cl l.w.registers.wl l.w.first)) (l.w.last - l.w.first) l.w.first (written l.initial.rows l.initial.data);
    }

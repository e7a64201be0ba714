use mathlib.Core.Path.{◌≡◌}
use Prim.Native.Nat.{◌-◌, ◌≤◌}
use lib.ListN.{length}
use Rattle.unpack_rules.specs.Position.{vectors_before}
use Rattle.unpack_rules.specs.Mask.{unfolded}
use Rattle.unpack_rules.specs.Write.{written, writes_from}
use Rattle.unpack_rules.specs.Step.{held_vector}
use Rattle.unpack_rules.specs.Inner.{WordFits}
use Rattle.unpack.proofs.step.write_vectors.Given as goal

abbrev pub invariant-loop-i : goal.invariant-loop-i
invariant-loop-i l =
    record {
      fits : WordFits l.w.size l.f l.u l.w.registers l.k l.w.first l.w.last l.data;
      later : l.w.first ≤ l.i;
      vectors : l.vectors ≡ vectors_before l.w.registers.cl l.w.registers.wl l.i;
      length : length l.data ≡ length l.initial.data;
      codes : l.codes ≡ unfolded l.w.registers.mask;
      col : l.col ≡ l.w.registers.col;
      same :
          writes_from l.w.size l.w.address l.w.registers (held_vector l.f l.u l.word l.k) (l.w.last - l.i) l.i (written l.rows l.data)
          ≡ writes_from l.w.size l.w.address l.w.registers (held_vector l.f l.u l.word l.k) (l.w.last - l.w.first) l.w.first (written l.initial.rows l.initial.data);
    }

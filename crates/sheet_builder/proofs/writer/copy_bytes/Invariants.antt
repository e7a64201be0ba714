use mathlib.Core.Path.{◌≡◌}
use lib.ListN.{length, drop}
use lib.Seq.{sets}
use Rattle.sheet_builder.proofs.writer.copy_bytes.Given as goal

abbrev pub invariant-loop-i : goal.invariant-loop-i
invariant-loop-i l =
    record {
      size : length l.to ≡ length l.initial.to;
      same : sets l.to l.i (drop l.i l.from) ≡ sets l.initial.to 0 l.from;
    }

use mathlib.Core.Path.{◌≡◌}
use Prim.Native.Nat.{◌+◌, ◌%◌}
use Rattle.gif.specs.Tag.{taken_of}
use Rattle.gif.proofs.BurstLaws.{Came}
use Rattle.gif.proofs.burst.packed_data.Given as goal

abbrev pub invariant-loop-k : goal.invariant-loop-k
invariant-loop-k l =
    record {
      came : Came l.source.which l.source.main.now l.source.a l.n l.used l.initial.log l.q l.tag l.k l.latest l.entries l.log;
      at : l.nibble ≡ (taken_of l.tag + l.k) % l.tag.nreg;
    }

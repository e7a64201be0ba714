use mathlib.Core.Path.{◌≡◌}
use Prim.Native.Nat.{◌+◌, ◌-◌, ◌≤◌}
use lib.ListN.{length}
use lib.Seq.{sets}
use Rattle.salvage.specs.Salvage.{kept_bytes, dropped_ranges, numbers_of}
use Rattle.salvage.specs.Inner.{kept_from, dropped_from}
use Rattle.salvage.proofs.writing.write.Given as goal

abbrev pub invariant-loop-record : goal.invariant-loop-record
invariant-loop-record l =
    record {
      short : length l.sheet ≤ 131072;
      inside : l.at ≤ length l.sheet;
      kept_room : l.bytes + length (kept_from l.sheet l.at) ≤ length l.output;
      dropped_room : l.numbers + length (numbers_of (dropped_from l.sheet l.at)) ≤ length l.ranges;
      kept : sets l.output l.bytes (kept_from l.sheet l.at) ≡ sets l.initial.output 0 (kept_bytes l.sheet);
      dropped : sets l.ranges l.numbers (numbers_of (dropped_from l.sheet l.at)) ≡ sets l.initial.ranges 0 (numbers_of (dropped_ranges l.sheet));
    }

abbrev pub decreases-loop-record : goal.decreases-loop-record
decreases-loop-record l = length l.sheet - l.at

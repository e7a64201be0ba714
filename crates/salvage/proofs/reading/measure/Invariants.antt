use mathlib.Core.Path.{◌≡◌}
use Prim.Native.Nat.{◌+◌, ◌-◌, ◌≤◌}
use lib.ListN.{length}
use Rattle.salvage.specs.Salvage.{kept_bytes, dropped_ranges}
use Rattle.salvage.specs.Inner.{kept_from, dropped_from}
use Rattle.salvage.proofs.reading.measure.Given as goal

abbrev pub invariant-loop-sums : goal.invariant-loop-sums
invariant-loop-sums l =
    record {
      short : length l.sheet ≤ 131072;
      inside : l.at ≤ length l.sheet;
      few : (l.sums.bytes ≤ l.at) × (l.sums.ranges ≤ l.at);
      kept : l.sums.bytes + length (kept_from l.sheet l.at) ≡ length (kept_bytes l.sheet);
      dropped : l.sums.ranges + length (dropped_from l.sheet l.at) ≡ length (dropped_ranges l.sheet);
    }

abbrev pub decreases-loop-sums : goal.decreases-loop-sums
decreases-loop-sums l = length l.sheet - l.at

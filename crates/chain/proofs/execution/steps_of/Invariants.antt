use mathlib.Core.Path.{◌≡◌}
use Prim.Native.Nat.{◌-◌, ◌≤◌}
use lib.ListN.{length}
use Rattle.memories.specs.Lengths.{lent}
use Rattle.chain.specs.Inner.{Ready}
use Rattle.chain.specs.Run.{counted, steps_of}
use Rattle.chain.proofs.execution.steps_of.Given as goal

abbrev pub invariant-loop-data : goal.invariant-loop-data
invariant-loop-data l =
    record {
      ready : Ready l.main l.s (lent l.data l.code l.log);
      lengths : (length l.data ≡ length l.initial.data) × (length l.code ≡ length l.initial.code) × (length l.log ≡ length l.initial.log);
      few : l.counts.steps ≤ l.allowance;
      same : counted l.counts (steps_of l.main (l.allowance - l.counts.steps) l.s (lent l.data l.code l.log)) ≡ steps_of l.main l.allowance l.initial.s (lent l.initial.data l.initial.code l.initial.log);
    }

abbrev pub decreases-loop-data : goal.decreases-loop-data
decreases-loop-data l = l.allowance - l.counts.steps

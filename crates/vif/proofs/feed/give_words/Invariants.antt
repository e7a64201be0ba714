use mathlib.Core.Path.{◌≡◌}
use mathlib.Core.Bool.{false}
use Prim.Native.Nat.{◌-◌}
use Rattle.fields.specs.Counts.{Counted}
use Rattle.memories.specs.Lengths.{lent}
use Rattle.vif.specs.Feed.{feeds_of}
use Rattle.vif.specs.Inner.{FedReady, fed_in, rest_of}
use Rattle.vif.proofs.feed.give_words.Given as goal

abbrev pub invariant-loop-s : goal.invariant-loop-s
invariant-loop-s l =
    record {
      ready : FedReady l.which (fed_in l.s (lent l.data l.code l.log));
      quiet : l.s.interrupt ≡ false;
      counted : Counted l.s.counts;
      same : rest_of l.which l.main l.limit l.a l.count l.s (lent l.data l.code l.log) ≡ feeds_of l.which l.main l.limit l.a l.count (fed_in l.initial.s (lent l.initial.data l.initial.code l.initial.log));
    }

abbrev pub decreases-loop-s : goal.decreases-loop-s
decreases-loop-s l = l.limit - l.s.counts.steps

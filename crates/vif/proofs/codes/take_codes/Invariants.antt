use Prim.Native.Nat.{◌-◌, ◌≤◌}
use Rattle.memories.specs.Lengths.{lent}
use Rattle.vif.specs.Feeds.{fed}
use Rattle.vif.specs.Inner.{Leads, fed_in, words_with}
use Rattle.vif.proofs.codes.take_codes.Given as goal

abbrev pub invariant-loop-k : goal.invariant-loop-k
invariant-loop-k l =
    record {
      few : l.k ≤ l.n;
      few_nops : l.nops ≤ l.k;
      leads : Leads l.which l.main l.from l.k (words_with l.k l.nops) (fed_in l.s (lent l.initial.data l.initial.code l.initial.log)) (fed l.unit l.s.path2 l.used (lent l.data l.code l.log));
    }

abbrev pub decreases-loop-k : goal.decreases-loop-k
decreases-loop-k l = l.n - l.k

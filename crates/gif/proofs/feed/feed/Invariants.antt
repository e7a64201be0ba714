use mathlib.Core.Path.{◌≡◌}
use Prim.Native.Nat.{◌+◌, ◌*◌, ◌-◌, ◌≤◌}
use lib.ListN.{length}
use Rattle.gif.specs.Log.{LogFits}
use Rattle.gif.specs.Range.{PlaceFits}
use Rattle.gif.specs.Feed.{feeds_of}
use Rattle.gif.specs.Inner.{plus, QuadwordsInside}
use Rattle.gif.proofs.feed.feed.Given as goal

abbrev pub invariant-loop-taken : goal.invariant-loop-taken
invariant-loop-taken l =
    record {
      inner : QuadwordsInside l.source.main.now l.source.a l.count;
      log_fits : LogFits l.log l.entries;
      place_fits : PlaceFits l.p.place;
      length : length l.log ≡ length l.initial.log;
      few : l.packets ≤ l.taken;
      same : plus l.taken l.packets (feeds_of l.source.which l.source.main.now (l.source.a + 16 * l.taken) (l.count - l.taken) l.p l.entries l.log) ≡ feeds_of l.source.which l.source.main.now l.source.a l.count l.initial.p l.used l.initial.log;
    }

abbrev pub decreases-loop-taken : goal.decreases-loop-taken
decreases-loop-taken l = l.count - l.taken

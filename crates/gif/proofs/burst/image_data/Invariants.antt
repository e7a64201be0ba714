use Rattle.gif.proofs.BurstLaws.{Came}
use Rattle.gif.proofs.burst.image_data.Given as goal

abbrev pub invariant-loop-k : goal.invariant-loop-k
invariant-loop-k l = Came l.source.which l.source.main.now l.source.a l.n l.used l.initial.log l.q l.tag l.k l.q l.entries l.log

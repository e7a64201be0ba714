use Rattle.std.proofs.Common.{◌≡◌, drop}
use Rattle.std.specs.List.{flat_map}
use Rattle.wire.specs.Words.{sent_all}
use Rattle.wire.proofs.Output.emit_all.Given as goal

abbrev pub invariant-loop-x : goal.invariant-loop-x
invariant-loop-x g l =
    sent_all l.self.out l.at (flat_map g.T.Words.words (drop l.x-index l.xs))
    ≡ sent_all l.initial.self.out l.initial.self.at (flat_map g.T.Words.words l.xs)

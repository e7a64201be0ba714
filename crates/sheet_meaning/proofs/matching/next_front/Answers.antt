use Rattle.std.proofs.Common.{◌∙◌}
use Rattle.sheet_meaning.proofs.MatchLaws.{front_compared, front_past}
use Rattle.sheet_meaning.proofs.matching.next_front.Goals as goal
use Rattle.sheet_meaning.proofs.matching.next_front.Goals.{then-n-log, else-n-log}

pub returns : goal.returns
returns c =
    elim c.if-n-log.branch [
      | then-n-log w ↦ front_compared _ _ _ _ c.from.ensures w.if-n-log.true (w.whole-is ∙ w.entry_is-whole.ensures)
      | else-n-log w ↦ front_past _ _ _ _ c.from.ensures w.if-n-log.false w.whole-is
    ]

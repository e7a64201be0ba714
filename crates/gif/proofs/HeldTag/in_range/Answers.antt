use Rattle.std.proofs.Common.{sym, ◌∙◌}
use Rattle.gif.specs.Range.{tag_in_range}
use Rattle.gif.proofs.HeldTag.in_range.Goals as goal
use Rattle.gif.proofs.HeldTag.in_range.Goals.{then-within, else-within}

pub returns-then-within-2 : goal.returns-then-within-2
unfolding tag_in_range
returns-then-within-2 c =
    elim c.if-within.branch [
      | then-within w ↦
          rw (sym c.within.ensures ∙ w.if-within.true, sym w.within-then-within.ensures ∙ sym w.value-is ∙ c.if-within-2.true, sym c.quadwords.ensures)
          c.within-then-within-2.ensures
      | else-within w ↦ cc
    ]

pub returns-else-within-2 : goal.returns-else-within-2
unfolding tag_in_range
returns-else-within-2 c =
    elim c.if-within.branch [
      | then-within w ↦ rw (sym c.within.ensures ∙ w.if-within.true, sym w.within-then-within.ensures ∙ sym w.value-is ∙ c.if-within-2.false) c.if-within-2.false
      | else-within w ↦ rw (sym c.within.ensures ∙ w.if-within.false) c.if-within-2.false
    ]

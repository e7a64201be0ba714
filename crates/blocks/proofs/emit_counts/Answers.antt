use mathlib.Core.Path.{◌∙◌}
use Rattle.cases.proofs.Laws.{twos}
use Rattle.blocks.proofs.emit_counts.Goals as goal

pub returns : goal.returns
returns c = c.emit_all.ensures ∙ rw (twos, c.count_numbers-numbers.ensures)

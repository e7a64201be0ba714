use Rattle.compare.specs.Within.{comparison_within}
use Rattle.compare.proofs.within.comparison_within.Goals as goal

pub returns : goal.returns
unfolding comparison_within
returns c = rw (c.quadwords_within.ensures, c.quadwords_within-2.ensures)

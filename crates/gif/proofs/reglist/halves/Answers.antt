use Rattle.gif.specs.Reglist.{reglist_write}
use Rattle.fields.specs.Fields.{if}
use mathlib.Core.Path.{sym}
use Rattle.gif.proofs.reglist.halves.Goals as goal

pub returns-in-true-true : goal.returns-in-true-true
unfolding reglist_write if
returns-in-true-true c = simp (sym c.in-true-true.ensures, sym c.in-true-true.ensures')

pub returns-in-true-false : goal.returns-in-true-false
unfolding reglist_write if
returns-in-true-false c = simp (sym c.in-true-false.ensures, sym c.in-true-false.ensures')

pub returns-in-false-true : goal.returns-in-false-true
unfolding reglist_write if
returns-in-false-true c = simp (sym c.in-false-true.ensures, sym c.in-false-true.ensures')

pub returns-in-false-false : goal.returns-in-false-false
unfolding reglist_write if
returns-in-false-false c = simp (sym c.in-false-false.ensures, sym c.in-false-false.ensures')

use mathlib.Core.Path.{◌≡◌}
use Prim.Native.Nat.{◌-◌}
use lib.ListN.{length}
use Rattle.sheet.specs.Editions.{expansion_from, limited}
use Rattle.sheet.specs.Sums.{measured_of, summed}
use Rattle.sheet.proofs.totals.measure_items.Given as goal

abbrev pub invariant-loop-item : goal.invariant-loop-item
invariant-loop-item l = summed l.sum (expansion_from l.sheet l.at) ≡ measured_of (limited (expansion_from l.sheet l.first))

-- bytes left
abbrev pub decreases-loop-item : goal.decreases-loop-item
decreases-loop-item l = length l.sheet - l.at

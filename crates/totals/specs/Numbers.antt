-- Totals and the counts of a run as numbers that stand one after another, 0 where there are too few.
use Rattle.std.specs.Prelude.{ℕ, ◌+◌, List, get_or}
use Rattle.fields.specs.declared.Qwc.{Qwc}
use Rattle.fields.specs.declared.Counts.{Counts}
use Rattle.fields.specs.Counts.{units, qwcs, counts}
use Rattle.totals.specs.declared.Totals.{Totals}
use Rattle.totals.specs.Totals.{totals}

-- QWC of the IDs 0 to 7, from a place on
abbrev pub qwc_at : List ℕ → ℕ → Qwc
qwc_at ns at =
    qwcs (get_or ns at 0) (get_or ns (at + 1) 0) (get_or ns (at + 2) 0) (get_or ns (at + 3) 0)
    (get_or ns (at + 4) 0) (get_or ns (at + 5) 0) (get_or ns (at + 6) 0) (get_or ns (at + 7) 0)

-- eleven numbers, as `numbersOf` has them
abbrev pub totals_from : List ℕ → Totals
totals_from ns = totals (get_or ns 0 0) (get_or ns 1 0) (get_or ns 2 0) (qwc_at ns 3)

-- twelve numbers, as `countNumbers` has them
abbrev pub counts_from : List ℕ → Counts
counts_from ns = counts (units (get_or ns 0 0) (get_or ns 1 0) (get_or ns 2 0) (get_or ns 3 0)) (qwc_at ns 4)

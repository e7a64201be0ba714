use mathlib.Core.Path.{◌≡◌}
use Prim.Native.Nat.{◌*◌, ◌-◌}
use Rattle.sheet.specs.Records.{bytes_at}
use Rattle.sheet.specs.Meaning.{entries_at}
use Rattle.sheet_meaning.specs.Met.{met_all}
use Rattle.sheet_meaning.proofs.matching.meet_entries.Given as goal

abbrev pub invariant-loop-j : goal.invariant-loop-j
invariant-loop-j l =
    met_all l.log.numbers.now l.log.used (entries_at (bytes_at l.sheet l.body (16 * l.n)) (l.n - l.j) l.j) l.met
    ≡ met_all l.log.numbers.now l.log.used (entries_at (bytes_at l.sheet l.body (16 * l.n)) l.n 0) l.fn.front

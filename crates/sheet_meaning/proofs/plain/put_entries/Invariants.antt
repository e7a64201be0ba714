use Prim.Native.Nat.{◌*◌}
use Rattle.sheet.specs.Records.{bytes_at}
use Rattle.sheet_meaning.proofs.BodyLaws.{Going, put_entries}
use Rattle.sheet_meaning.proofs.plain.put_entries.Given as goal

abbrev pub invariant-loop-j : goal.invariant-loop-j
invariant-loop-j l = Going (put_entries l.used (bytes_at l.sheet l.body (16 * l.n))) l.n l.initial.log l.j l.log

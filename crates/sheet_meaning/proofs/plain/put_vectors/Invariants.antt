use Prim.Native.Nat.{◌*◌}
use Rattle.sheet.specs.Records.{bytes_at}
use Rattle.sheet.specs.Meaning.{put_vectors}
use Rattle.sheet_meaning.proofs.BodyLaws.{Going}
use Rattle.sheet_meaning.proofs.plain.put_vectors.Given as goal

abbrev pub invariant-loop-j : goal.invariant-loop-j
invariant-loop-j l = Going (put_vectors l.a (bytes_at l.sheet l.body (16 * l.n))) l.n l.initial.«data» l.j l.«data»

use Prim.Native.Nat.{◌*◌}
use Rattle.sheet.specs.Records.{bytes_at}
use Rattle.sheet.specs.Meaning.{put_instructions}
use Rattle.sheet_meaning.proofs.BodyLaws.{Going}
use Rattle.sheet_meaning.proofs.plain.put_instructions.Given as goal

abbrev pub invariant-loop-j : goal.invariant-loop-j
invariant-loop-j l = Going (put_instructions l.a (bytes_at l.sheet l.body (8 * l.n))) l.n l.initial.code l.j l.code

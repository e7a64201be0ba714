use Rattle.unpack_rules.proofs.VectorLaws.{halves}
use Rattle.unpack_rules.specs.Vector.{extended}
use Rattle.fields.specs.Fields.{if}
use borrow.Author.Tests.{lt-ltb, le-ltb}
use native.Mathlib.Omega.{arith}
use Prim.Native.Nat.{◌-◌, ◌^◌}
use Rattle.unpack.proofs.vector.extend.Goals as goal

pub returns-then-usn : goal.returns-then-usn
unfolding extended if
returns-then-usn c = rw c.if-usn.true

pub returns-then-x-half : goal.returns-then-x-half
unfolding extended if
returns-then-x-half c = let h = halves c.args.width c.requires.0 c.requires.1 in let t = lt-ltb c.args.x (2 ^ (c.args.width - 1)) (omega arith) in rw (c.if-usn.false, t)

pub returns-else-x-half : goal.returns-else-x-half
unfolding extended if
returns-else-x-half c = let h = halves c.args.width c.requires.0 c.requires.1 in let t = le-ltb c.args.x (2 ^ (c.args.width - 1)) (omega arith) in rw (c.if-usn.false, t) (omega arith)

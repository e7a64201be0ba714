use Rattle.unpack.specs.Vectors.{quad_of}
use borrow.Author.Rules.{rules}
use Rattle.unpack.proofs.vectors.quad_of.Goals as goal

pub returns : goal.returns
unfolding quad_of
returns c = search rules

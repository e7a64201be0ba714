use Prim.Native.Nat.{◌/◌}
use Rattle.gif.proofs.TagLaws.{nreg_some, tag_made}
use native.Mathlib.Omega.{arith}
use borrow.Author.Rules.{rules}
use Rattle.gif.proofs.tag.tag_of.Goals as goal

pub quadwords-requires : goal.quadwords-requires
quadwords-requires c = let n = nreg_some (c.args.quad.low / 1152921504606846976) (omega arith) in omega (arith, c.nreg_of-nreg.ensures)

pub returns : goal.returns
returns c = tag_made c.args.quad.low c.args.quad.high (search rules) (search rules) c.format_of-format.ensures c.nreg_of-nreg.ensures c.quadwords.ensures

use mathlib.Core.Path.{refl}
use borrow.Author.Rules.{rules}
use Rattle.unpack_rules.proofs.VectorLaws.{words_lem, element_code}
use Rattle.unpack.proofs.vector.element_at.Goals as goal

pub returns : goal.returns
returns c =
    rw c.from.ensures (element_code (words_lem c.args.words (λ j. search (rules, c.well_formed.0))) c.args.width c.args.at c.requires refl)

use Rattle.std.proofs.Common.{rules, ◌∙◌, ap, arith, take, drop}
use borrow.Author.Tests.{tests}
use lib.Dec.{eqb}
use Rattle.std.proofs.lemmas.Iterator.{YieldsList-from_slice}
use Rattle.std.proofs.lemmas.Iterator.Search.{all_from_yields_List}
use Rattle.sheet.specs.Records.{bytes_at}
use Rattle.sheet.proofs.PadLaws.{zeros_all}
use Rattle.sheet.proofs.reader.zeros_at.Goals as goal

pub returns : goal.returns
returns c =
    all_from_yields_List (λ x. eqb x 0) _ _ _ c.all.ensures.ran (YieldsList-from_slice (bytes_at c.args.sheet.now c.args.at c.args.n) (rw c.iter.ensures.rest (ap (λ k. take k (drop c.args.at c.args.sheet.now)) (omega arith)))) (λ x b q k. search (rules, tests))
    ∙ zeros_all _ _ _ c.requires

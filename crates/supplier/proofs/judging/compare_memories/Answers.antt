use Rattle.std.proofs.Common.{◌∙◌}
use Rattle.supplier.proofs.CheckLaws.{compare_never, compare_first}
use Rattle.supplier.proofs.judging.compare_memories.Goals as goal

pub returns-in_err-found : goal.returns-in_err-found
returns-in_err-found c = absurd (compare_never c.requires _ _ (rw (c.side-a.ensures, c.side-b.ensures) at c.in_err-found.ensures))

pub returns : goal.returns
returns c =
    let e = compare_first c.requires _ (rw (c.side-a.ensures, c.side-b.ensures) at c.in_ok-found.ensures) in
    c.first_difference.ensures ∙ rw (e.0, e.1)

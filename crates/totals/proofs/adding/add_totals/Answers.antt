use mathlib.Core.Path.{ap, ◌∙◌}
use Rattle.totals.specs.Totals.{added_by}
use Rattle.totals.proofs.AddLaws.{add_by}
use Rattle.totals.proofs.adding.add_totals.Goals as goal

pub returns : goal.returns
returns c = ap (λ x. added_by c.args.totals x) c.ok_or.ensures.value ∙ add_by _ _ _ c.added.ensures

use mathlib.Core.Path.{◌∙◌}
use Rattle.fields.proofs.CountLaws.{plus_units_fits}
use Rattle.vif.proofs.feed.one_more.Goals as goal

pub returns : goal.returns
returns c = let p = c.requires in c.plus_units.ensures ∙ plus_units_fits p.0 p.1 p.2

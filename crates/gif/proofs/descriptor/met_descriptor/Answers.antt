use mathlib.Core.Path.{sym, ◌∙◌}
use Rattle.fields.specs.Fields.{if}
use Rattle.gif.specs.Met.{met_descriptor}
use Rattle.gif.proofs.descriptor.met_descriptor.Goals as goal

pub returns-then-path_in_range : goal.returns-then-path_in_range
unfolding met_descriptor if
returns-then-path_in_range c = rw (sym c.path_in_range.ensures ∙ c.if-path_in_range.true) c.place_met.ensures

pub returns-else-path_in_range : goal.returns-else-path_in_range
unfolding met_descriptor if
returns-else-path_in_range c = rw (sym c.path_in_range.ensures ∙ c.if-path_in_range.false)

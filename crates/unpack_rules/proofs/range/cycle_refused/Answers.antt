use Rattle.fields.proofs.ChoiceLaws.{in-turn}
use Rattle.unpack_rules.specs.Range.{cycle_refused}
use Rattle.unpack_rules.proofs.range.cycle_refused.Goals as goal

pub returns : goal.returns
unfolding cycle_refused
returns c = search in-turn depth 8

use Rattle.fields.specs.Fields.{if}
use Rattle.std.proofs.Common.{eq-eqb, ne_eqb, rules, ◌%◌}
use Rattle.unpack_rules.specs.Step.{count_of}
use Rattle.unpack_rules.proofs.payload.count_of.Goals as goal

pub returns-in-0 : goal.returns-in-0
unfolding count_of if
returns-in-0 c = rw (eq-eqb _ _ c.in-0.is)

pub returns-in_default : goal.returns-in_default
unfolding count_of if
returns-in_default c = rw (ne_eqb (c.args.num % 256) 0 (search rules))

use mathlib.Core.Path.{sym, ◌∙◌}
use Rattle.fields.specs.Fields.{if}
use Rattle.vif_codes.specs.Execute.{unpack_refusal}
use Rattle.vif_codes.proofs.execute.test_unpack.Goals as goal

pub returns-then-cycle_refused : goal.returns-then-cycle_refused
unfolding unpack_refusal if
returns-then-cycle_refused c = rw (sym c.cycle_refused.ensures ∙ c.if-cycle_refused.true)

pub returns-then-tops_refused : goal.returns-then-tops_refused
unfolding unpack_refusal if
returns-then-tops_refused c = rw (sym c.cycle_refused.ensures ∙ c.if-cycle_refused.false, sym c.tops_refused.ensures ∙ c.if-tops_refused.true)

pub returns : goal.returns
unfolding unpack_refusal if
returns c = rw (sym c.cycle_refused.ensures ∙ c.if-cycle_refused.false, sym c.tops_refused.ensures ∙ c.if-tops_refused.false)

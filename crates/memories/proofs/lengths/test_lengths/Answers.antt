use mathlib.Core.Path.{sym, ◌∙◌}
use Rattle.memories.specs.Lengths.{lengths_refusal}
use borrow.Author.Tests.{eq-eqb, ne_eqb}
use Rattle.fields.specs.Fields.{if}
use Rattle.memories.proofs.lengths.test_lengths.Goals as goal

pub returns-then-data-quadwords : goal.returns-then-data-quadwords
unfolding lengths_refusal if
returns-then-data-quadwords c = rw (sym c.quadwords.ensures.0, ne_eqb _ _ c.if-data-quadwords.true)

pub returns-then-code-instructions : goal.returns-then-code-instructions
unfolding lengths_refusal if
returns-then-code-instructions c =
    rw (sym c.quadwords.ensures.0, eq-eqb _ _ c.if-data-quadwords.false, sym c.instructions.ensures.0, ne_eqb _ _ c.if-code-instructions.true)

pub returns-then-log_refused : goal.returns-then-log_refused
unfolding lengths_refusal if
returns-then-log_refused c =
    rw (sym c.quadwords.ensures.0, eq-eqb _ _ c.if-data-quadwords.false, sym c.instructions.ensures.0, eq-eqb _ _ c.if-code-instructions.false, sym c.log_refused.ensures ∙ c.if-log_refused.true)

pub returns : goal.returns
unfolding lengths_refusal if
returns c =
    rw (sym c.quadwords.ensures.0, eq-eqb _ _ c.if-data-quadwords.false, sym c.instructions.ensures.0, eq-eqb _ _ c.if-code-instructions.false, sym c.log_refused.ensures ∙ c.if-log_refused.false)

use Rattle.std.proofs.Common.{◌∙◌, sym, eq-eqb, ne_eqb}
use Rattle.fields.specs.Fields.{if}
use Rattle.gif_reason.specs.Reason.{quadword_numbers}
use Rattle.gif_reason.proofs.shown.quadword_numbers.Goals as goal

pub returns-then-refusal-number : goal.returns-then-refusal-number
unfolding quadword_numbers if
returns-then-refusal-number c = rw (eq-eqb _ _ (c.if-refusal-number.true ∙ c.number.ensures), c.met_descriptor.ensures)

pub returns-then-refusal-number-2 : goal.returns-then-refusal-number-2
unfolding quadword_numbers if
returns-then-refusal-number-2 c =
    rw (
      ne_eqb _ _ (λ q. c.if-refusal-number.false (q ∙ sym c.number.ensures)),
      eq-eqb _ _ (c.if-refusal-number-2.true ∙ c.number-else-refusal-number.ensures),
      c.free_entries.ensures,
    )

pub returns-else-refusal-number-2 : goal.returns-else-refusal-number-2
unfolding quadword_numbers if
returns-else-refusal-number-2 c =
    rw (
      ne_eqb _ _ (λ q. c.if-refusal-number.false (q ∙ sym c.number.ensures)),
      ne_eqb _ _ (λ q. c.if-refusal-number-2.false (q ∙ sym c.number-else-refusal-number.ensures)),
    )

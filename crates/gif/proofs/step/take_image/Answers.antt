use Rattle.fields.proofs.FieldLaws.{whole_low, whole_high}
use Rattle.gif.specs.Step.{image_step}
use borrow.Author.Rules.{rules}
use Rattle.gif.proofs.step.take_image.Goals as goal

pub returns : goal.returns
unfolding image_step
returns c =
    let x = c.args in
    rw (whole_low x.quad.low x.quad.high (search rules), whole_high x.quad.low x.quad.high (search rules) (search rules), ← c.image_writes.ensures)
    c.finish_data.ensures

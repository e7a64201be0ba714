use mathlib.Core.Path.{◌≡◌, sym, ◌∙◌}
use Rattle.fields.specs.Fields.{if}
use Rattle.unpack_rules.specs.Payload.{is_five}
use Rattle.unpack_rules.specs.Step.{acting}
use Rattle.unpack.proofs.step.acting_registers.Goals as goal
use Rattle.unpack.proofs.step.acting_registers.Goals.{then-is_five, else-is_five}

pub returns : goal.returns
unfolding acting if
returns c =
    let m : c.if-is_five.result ≡ if (is_five c.args.f) 0 c.args.r.mode =
    elim c.if-is_five.branch [
      | then-is_five w ↦ rw (w.result-is, sym c.is_five.ensures ∙ w.if-is_five.true)
      | else-is_five w ↦ rw (w.result-is, sym c.is_five.ensures ∙ w.if-is_five.false)
    ] in
    rw (c.mask_of.ensures, m)

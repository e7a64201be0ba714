use mathlib.Core.Path.{sym, ◌∙◌}
use Rattle.fields.specs.Fields.{if}
use Rattle.unpack_rules.specs.Step.{unfed_of}
use Rattle.unpack_rules.proofs.StepLaws.{unfed_fits, unfed_as}
use Rattle.unpack.proofs.step.write_without_payload.Goals as goal

pub write_unfed-requires : goal.write_unfed-requires
write_unfed-requires c =
    rw c.acting_registers-s.ensures (unfed_fits _ _ _ _ _ (sym c.unfed_acceptable.ensures ∙ c.if-unfed_acceptable.true)).fits

pub returns-then-unfed_acceptable : goal.returns-then-unfed_acceptable
returns-then-unfed_acceptable c =
    unfed_as _ _ _ _ _ _ (sym c.unfed_acceptable.ensures ∙ c.if-unfed_acceptable.true) c.acting_registers-s.ensures c.write_unfed.ensures

pub returns-else-unfed_acceptable : goal.returns-else-unfed_acceptable
unfolding unfed_of if
returns-else-unfed_acceptable c = rw (sym c.unfed_acceptable.ensures ∙ c.if-unfed_acceptable.false)

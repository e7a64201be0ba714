use Rattle.std.proofs.Common.{refl, sym, arith}
use Rattle.fields.proofs.RefusalLaws.{refusal_small}
use Rattle.diagnosis.proofs.TrialLaws.{log_held}
use Rattle.diagnosis.proofs.WhyLaws.{why_entry, why_ended, why_told}
use Rattle.diagnosis.proofs.telling.why.Goals as goal

pub returns-in-Err : goal.returns-in-Err
returns-in-Err c =
    why_entry _ _ _ c.in-Err.ensures (λ z. omega (arith, (refusal_small c.in-Err.refusal).0, z))

pub returns-then-finished : goal.returns-then-finished
returns-then-finished c =
    why_ended _ _ _ c.in_default.ensures refl (sym c.if-finished.ensures)

pub outlook-requires : goal.outlook-requires
outlook-requires c =
    log_held _ _ _ (sym c.in_default.ensures)

pub returns-in-Ok : goal.returns-in-Ok
returns-in-Ok c =
    why_told _ _ _ c.in_default.ensures refl (sym c.if-finished.ensures) c.try_step.ensures c.in-Ok.ensures refl

pub returns-in-Err-outlook : goal.returns-in-Err-outlook
returns-in-Err-outlook c =
    why_told _ _ _ c.in_default.ensures refl (sym c.if-finished.ensures) c.try_step.ensures c.in-Err-outlook.ensures
    (rw (← c.numbers-shown.ensures, c.next_place.ensures))

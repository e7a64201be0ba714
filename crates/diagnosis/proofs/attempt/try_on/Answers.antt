use Rattle.std.proofs.Common.{refl, sym}
use Rattle.diagnosis.proofs.TrialLaws.{trial_tells, trial_of_ok}
use Rattle.diagnosis.proofs.attempt.try_on.Goals as goal

pub returns-in-Ok : goal.returns-in-Ok
returns-in-Ok c =
    trial_tells refl (record { mem_length = c.requires.0; code_length_lem = c.requires.1; log_length_lem = refl })
    refl c.run-r.ensures (rw c.in-Ok.is (trial_of_ok c.in-Ok.field-0 _))

pub returns-in-Err : goal.returns-in-Err
returns-in-Err c =
    trial_tells refl (record { mem_length = c.requires.0; code_length_lem = c.requires.1; log_length_lem = refl })
    refl c.run-r.ensures (rw c.in-Err.is refl)

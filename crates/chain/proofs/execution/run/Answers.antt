use mathlib.Core.Path.{refl}
use native.Mathlib.Omega.{arith}
use Rattle.fields.proofs.RefusalLaws.{refusal_small}
use Rattle.chain.proofs.RunLaws.{run_refused, run_entered}
use Rattle.chain.proofs.execution.run.Goals as goal

pub returns-in-Ok : goal.returns-in-Ok
returns-in-Ok c = run_entered _ _ _ _ c.in-Ok.ensures refl c.steps_of.ensures

pub returns-in-Err : goal.returns-in-Err
returns-in-Err c =
    let small = refusal_small c.in-Err.refusal in
    rw c.no_counts.ensures (run_refused _ _ _ _ c.in-Err.ensures (λ z. omega (arith, small.0, z)))

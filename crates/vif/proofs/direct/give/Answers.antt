use Rattle.vif.proofs.StepLaws.{gave, by_answer, gif_kept}
use Rattle.vif.proofs.direct.give.Goals as goal

pub returns-in-Ok : goal.returns-in-Ok
returns-in-Ok c =
    λ mem code.
    gave _ _ _ _ _ _ _ _ _ _ c.requires c.take_quadword-r.result c.take_quadword-r.ensures
    (by_answer c.in-Ok.is _ _ _ _ _ _ _ _ (rw (c.answered.ensures, c.with_waiting.ensures, c.or_nothing.ensures, c.completed.ensures)))

pub returns-in-Err : goal.returns-in-Err
returns-in-Err c =
    λ mem code.
    let q = c.in-Err.is in
    gave _ _ _ _ _ _ _ _ _ _ c.requires c.take_quadword-r.result c.take_quadword-r.ensures
    (by_answer q _ _ _ _ _ _ _ _ (rw (c.answered-in-Err.ensures, gif_kept _ _ _ _ c.requires c.take_quadword-r.ensures q)))

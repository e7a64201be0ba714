use mathlib.Core.Path.{ap}
use Rattle.gif.specs.GifAnswer.{gif_answer}
use Rattle.chain.proofs.StepLaws.{stepped_as, gif_gave, gif_same, by_gif}
use Rattle.chain.proofs.step.give_gif.Goals as goal

pub returns-in-Ok : goal.returns-in-Ok
returns-in-Ok c =
    λ mem code.
    gif_gave c.requires _ mem code c.long_at.ensures c.long_at-2.ensures c.take_quadword-r.result c.take_quadword-r.ensures
    (by_gif (ap gif_answer c.in-Ok.is) _ _ _ _
    (stepped_as c.completed.ensures _ (rw (c.with_pending.ensures, c.with_path3.ensures, c.of_unit.ensures, c.one_quadword.ensures))))

pub returns-in-Err : goal.returns-in-Err
returns-in-Err c =
    λ mem code.
    let q = ap gif_answer c.in-Err.is in
    let g = c.take_quadword-r in
    gif_gave c.requires _ mem code c.long_at.ensures c.long_at-2.ensures g.result g.ensures
    (by_gif q _ _ _ _
    (stepped_as c.refused.ensures _ (rw (gif_same c.requires c.args.rest mem code c.long_at.ensures c.long_at-2.ensures g.result g.ensures q))))

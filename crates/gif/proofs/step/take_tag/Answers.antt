use Rattle.gif.specs.Step.{tag_step}
use Rattle.gif.proofs.step.take_tag.Goals as goal

pub returns : goal.returns
unfolding tag_step
returns c =
    rw (← c.path_at_tag-after.ensures, ← c.tag_writes-writes.ensures, ← c.tag_closes.ensures) c.finish.ensures

use borrow.Author.Rules.{rules}
use Rattle.gif.proofs.BurstLaws.{none_came, image_came, came_end}
use Rattle.gif.proofs.burst.image_data.Goals as goal

pub loop-k-init : goal.loop-k-init
loop-k-init c = none_came _ _ _ _ _ _ _ _ c.requires.0

pub loop-k-preserved : goal.loop-k-preserved
loop-k-preserved c =
    let s = c.append-entries.ensures in
    image_came _ _ _ _ _ _ _ _ c.requires.0 c.loop-k.invariant c.loop-k-test.true c.quadword-quad.ensures (search rules) (search rules) c.image_writes.result s.0 s.1 c.requires.1
    c.image_writes.ensures

pub returns : goal.returns
returns c = came_end _ _ _ _ _ _ _ _ c.requires.0 c.loop-k.invariant c.loop-k-test.false c.data_result.ensures

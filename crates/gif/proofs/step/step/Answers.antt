use Rattle.gif.proofs.DataLaws.{by_place}
use Rattle.gif.proofs.RangeLaws.{tag_fits}
use Rattle.gif.specs.Step.{gif_step}
use Rattle.gif.proofs.step.step.Goals as goal

pub take_data-requires : goal.take_data-requires
take_data-requires c = (c.requires.0, tag_fits _ (rw c.in-Some.is at c.requires.1.held))

pub returns-in-None : goal.returns-in-None
unfolding gif_step
returns-in-None c = by_place c.in-None.is _ _ _ _ _ c.take_tag.ensures

pub returns-in-Some : goal.returns-in-Some
unfolding gif_step
returns-in-Some c = by_place c.in-Some.is _ _ _ _ _ c.take_data.ensures

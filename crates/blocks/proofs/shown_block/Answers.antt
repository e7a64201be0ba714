use Rattle.blocks.proofs.Laws.{shown_known, shown_unknown}
use Rattle.blocks.proofs.shown_block.Goals as goal

pub returns-in-Some : goal.returns-in-Some
returns-in-Some c = shown_known _ _ c.in-Some.ensures c.state_block.ensures

pub returns-in-None : goal.returns-in-None
returns-in-None c = shown_unknown _ _ c.in-None.ensures

use Rattle.state_block.proofs.WordLaws.{given}
use Rattle.state_block.proofs.UnitLaws.{none_stands}
use Rattle.state_block.proofs.unit.unit_given.Goals as goal

pub returns : goal.returns
returns c =
    rw (c.unwrap_or.ensures, c.unit_in_block.ensures, c.no_unit.ensures) (given _ _ _ (none_stands c.args.block.now))

use Rattle.state_block.proofs.WordLaws.{given}
use Rattle.state_block.proofs.PathLaws.{none_stands}
use Rattle.state_block.proofs.path.path_given.Goals as goal

pub returns : goal.returns
returns c =
    rw (c.unwrap_or.ensures, c.path_in_block.ensures, c.no_path.ensures) (given _ _ _ (none_stands c.args.block.now))

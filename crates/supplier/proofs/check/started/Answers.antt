use Rattle.supplier.proofs.RunLaws.{reset_ok, reset_begins}
use Rattle.supplier.proofs.check.started.Goals as goal

pub unwrap-requires : goal.unwrap-requires
unwrap-requires c = reset_ok _ c.reset.ensures c.start.ensures

pub returns : goal.returns
returns c = reset_begins c.reset.ensures c.unwrap.ensures c.start.ensures

use Rattle.std.proofs.Common.{refl}
use Rattle.state_block.proofs.UnitLaws.{unit_stored}
use Rattle.state_block.proofs.unit.unit_block.Goals as goal

pub returns : goal.returns
returns c =
    unit_stored c.args.unit _ refl c.register_words-r.ensures c.waiting_words-w.ensures
    c.put_words.ensures c.put_words-2.ensures

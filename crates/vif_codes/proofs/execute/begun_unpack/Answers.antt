use Rattle.vif_codes.proofs.CodeLaws.{begun_mod}
use Rattle.vif_codes.proofs.execute.begun_unpack.Goals as goal

pub returns : goal.returns
returns c = begun_mod _ _ c.args.unit _ _ c.address_of-address.ensures c.waiting_for.ensures

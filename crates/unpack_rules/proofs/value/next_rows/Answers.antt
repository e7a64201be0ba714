use Rattle.unpack_rules.proofs.WriteLaws.{rows}
use Rattle.unpack_rules.proofs.value.next_rows.Goals as goal

pub returns : goal.returns
returns c = search (rows)

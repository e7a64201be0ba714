use Rattle.unpack.proofs.VectorsLaws.{new_fields}
use Rattle.unpack.proofs.vectors.next_fields.Goals as goal

pub returns : goal.returns
returns c = search (new_fields)

use Rattle.unpack.proofs.CopyLaws.{even_vectors, even_copied}
use Rattle.unpack.proofs.copy.copy_writes.Goals as goal

pub copy_runs-requires : goal.copy_runs-requires
copy_runs-requires c =
    let p = c.requires in
    (p.memory, p.inside, p.few, p.some, even_vectors p c.if-w.true)

pub returns-then-w : goal.returns-then-w
returns-then-w c = even_copied _ _ _ _ _ _ _ _ _ c.if-w.true c.copy_runs.ensures

use native.Mathlib.Omega.{arith}
use Rattle.unpack.proofs.ShortLaws.{numbers, copy_join, after_end, copied_words}
use Rattle.unpack.proofs.short.take_all.Goals as goal

pub has_vectors-requires : goal.has_vectors-requires
has_vectors-requires c =
    let p = c.requires in
    let n = numbers p.0 in
    (omega arith, p.2, omega arith)

pub returns-then-has_vectors : goal.returns-then-has_vectors
returns-then-has_vectors c =
    let h = c.has_vectors.ensures c.if-has_vectors.true in
    copied_words _ _ _ (omega arith) (copy_join _ _ _ _ (omega arith) c.end_vector.ensures (c.copy_vectors.ensures _ (after_end _ _ _))) c.skip.ensures

pub take_singly-requires : goal.take_singly-requires
take_singly-requires c = let p = c.requires in let n = numbers p.0 in (p.0, p.1, omega arith)

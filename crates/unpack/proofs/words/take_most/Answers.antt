use mathlib.Core.Path.{refl, ◌∙◌}
use native.Mathlib.Omega.{arith}
use Rattle.unpack_rules.proofs.CycleLaws.{vectors_few}
use Rattle.unpack_rules.proofs.StepLaws.{payload_few, taken_is}
use Rattle.unpack.proofs.ReadLaws.{begun_fits, begun_due, begun_taken, words_joined}
use Rattle.unpack.proofs.words.take_most.Goals as goal

pub payload_words-requires : goal.payload_words-requires
payload_words-requires c =
    let v = vectors_few c.args.r.cl c.args.r.wl c.args.u.count in
    let n = c.requires.1.few in
    omega (arith, c.vectors_before-vectors.ensures)

pub has_vectors-requires : goal.has_vectors-requires
has_vectors-requires c =
    let p = c.requires in
    let m = payload_few c.args.f c.args.r.cl c.args.r.wl c.args.u.count p.1.few in
    let d = p.1.most in
    (c.words_before-lead.ensures.1, p.3, omega arith)

pub take_vectors-requires : goal.take_vectors-requires
take_vectors-requires c =
    let p = c.requires in
    let a = c.args in
    let h = c.has_vectors.ensures c.if-has_vectors.true in
    let l = c.words_before-lead.ensures in
    let f = begun_fits a.size a.f a.u a.r _ a.a _ a.n _ c.take_few.ensures p.1 (omega arith) in
    let d = begun_due a.size a.f a.u a.r _ a.a _ a.n _ c.take_few.ensures p.1 (omega arith) in
    let k = begun_taken a.size a.f a.u a.r _ a.a _ a.n _ c.take_few.ensures p.1 (omega arith) in
    let q = taken_is a.f a.r a.u c.vectors_before-vectors.ensures c.payload_words.ensures in
    record {
      cycle = p.0;
      memory = record { some = p.2.some; most = p.2.most; long = c.take_few.auto.data ∙ p.2.long };
      unpacking = f;
      fewer = omega arith;
      begins = rw (k, ← q) l.0;
      lies = omega arith;
    }

pub skip-requires : goal.skip-requires
skip-requires c =
    let p = c.requires in
    let a = c.args in
    let h = c.has_vectors.ensures c.if-has_vectors.true in
    let d = begun_due a.size a.f a.u a.r _ a.a _ a.n _ c.take_few.ensures p.1 (omega arith) in
    (omega arith, omega arith, omega arith)

pub returns-then-has_vectors : goal.returns-then-has_vectors
returns-then-has_vectors c =
    let a = c.args in
    let h = c.has_vectors.ensures c.if-has_vectors.true in
    words_joined a.size a.f a.u a.r _ a.a _ a.n _ c.take_few.ensures (omega arith) refl c.take_vectors.ensures c.skip.ensures

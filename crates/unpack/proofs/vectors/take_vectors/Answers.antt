use mathlib.Core.Path.{◌∙◌}
use native.Mathlib.Omega.{arith}
use Rattle.unpack_rules.specs.Step.{acting}
use Rattle.unpack_rules.proofs.CycleLaws.{vectors_few}
use Rattle.unpack_rules.proofs.StepLaws.{taken_is}
use Rattle.unpack.proofs.ReadLaws.{fed, words_most, vectors_most, vectors_ordered, vectors_fit, vectors_taken}
use Rattle.unpack.proofs.vectors.take_vectors.Goals as goal

pub payload_words-requires : goal.payload_words-requires
payload_words-requires c =
    let v = vectors_few c.args.r.cl c.args.r.wl c.args.u.count in
    let n = c.requires.unpacking.few in
    omega (arith, c.vectors_before-vectors.ensures)

pub whole_vectors-from-requires : goal.whole_vectors-from-requires
whole_vectors-from-requires c =
    let t = words_most c.requires in
    let k = taken_is c.args.f c.args.r c.args.u c.vectors_before-vectors.ensures c.payload_words.ensures in
    omega arith

pub whole_vectors-to-requires : goal.whole_vectors-to-requires
whole_vectors-to-requires c =
    let t = words_most c.requires in
    let k = taken_is c.args.f c.args.r c.args.u c.vectors_before-vectors.ensures c.payload_words.ensures in
    omega arith

pub writes_done-requires : goal.writes_done-requires
writes_done-requires c =
    let x = c.requires in
    let m = vectors_most x _ c.vectors_before-vectors.ensures c.whole_vectors-from.ensures in
    (x.cycle, fed x, m.0, m.1)

pub writes_done-requires-2 : goal.writes_done-requires-2
writes_done-requires-2 c =
    let x = c.requires in
    let m = vectors_most x _ c.vectors_before-vectors.ensures c.whole_vectors-to.ensures in
    (x.cycle, fed x, m.0, m.1)

pub overflow_sub-to : goal.overflow_sub-to
overflow_sub-to c =
    let e = c.vectors_before-vectors.ensures in
    vectors_ordered c.requires (taken_is _ _ _ e c.payload_words.ensures) (c.whole_vectors-from.ensures ∙ rw e) (c.whole_vectors-to.ensures ∙ rw e)

pub write_all-requires : goal.write_all-requires
unfolding acting
write_all-requires c =
    let e = c.vectors_before-vectors.ensures in
    let f = vectors_fit c.requires (taken_is _ _ _ e c.payload_words.ensures) (c.whole_vectors-from.ensures ∙ rw e) (c.whole_vectors-to.ensures ∙ rw e) c.writes_done.ensures c.writes_done-2.ensures in
    rw c.acting_registers.ensures (f.writes, f.reads)

pub returns : goal.returns
returns c =
    let e = c.vectors_before-vectors.ensures in
    let y = c.struct_known-1.given.1.1.1.1.1.1 in
    vectors_taken c.requires (taken_is _ _ _ e c.payload_words.ensures) (c.whole_vectors-from.ensures ∙ rw e) (c.whole_vectors-to.ensures ∙ rw e) c.writes_done.ensures c.writes_done-2.ensures (λ j. let y = c.shared_slice_known-1.given j in omega arith) y.0.fits y.1.0.fits y.1.1.0.fits c.acting_registers.ensures _ c.write_all.ensures

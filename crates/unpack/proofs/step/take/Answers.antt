use mathlib.Core.Path.{sym, ◌∙◌}
use native.Mathlib.Omega.{arith}
use borrow.Author.Rules.{rules}
use Rattle.unpack_rules.proofs.CycleLaws.{vectors_few}
use Rattle.unpack_rules.proofs.StepLaws.{taken_is, taken_few, completed_fits, word_taken, none_completed}
use Rattle.unpack.proofs.ShortLaws.{goes_short_lem, short_fits, word_as}
use Rattle.unpack.proofs.step.take.Goals as goal

pub take_short-requires : goal.take_short-requires
take_short-requires c =
    short_fits (goes_short_lem _ _ _ (sym c.goes_short.ensures ∙ c.if-goes_short.true)) c.requires.0 c.requires.1 c.requires.2

pub returns-then-goes_short : goal.returns-then-goes_short
returns-then-goes_short c =
    word_as _ (goes_short_lem _ _ _ (sym c.goes_short.ensures ∙ c.if-goes_short.true)) c.take_short.ensures (search (rules, c.well_formed.1.1.1.1.1.0))

pub payload_words-requires : goal.payload_words-requires
payload_words-requires c =
    let v = vectors_few c.args.r.cl c.args.r.wl c.args.u.count in
    let n = c.requires.1.few in
    omega (arith, c.vectors_before-vectors.ensures)

pub whole_vectors-from-requires : goal.whole_vectors-from-requires
whole_vectors-from-requires c =
    let t = taken_few c.args.f c.args.r c.args.u c.requires.1 in
    let k = taken_is c.args.f c.args.r c.args.u c.vectors_before-vectors.ensures c.payload_words.ensures in
    omega arith

pub whole_vectors-to-requires : goal.whole_vectors-to-requires
whole_vectors-to-requires c =
    let t = taken_few c.args.f c.args.r c.args.u c.requires.1 in
    let k = taken_is c.args.f c.args.r c.args.u c.vectors_before-vectors.ensures c.payload_words.ensures in
    omega arith

pub returns-then-from-to : goal.returns-then-from-to
returns-then-from-to c =
    let v = c.vectors_before-vectors.ensures in
    word_taken _ _ _ _ _ _ (taken_is _ _ _ v c.payload_words.ensures) v c.whole_vectors-from.ensures c.whole_vectors-to.ensures
    (none_completed _ _ _ _ _ _ _ _ _ c.if-from-to.true)

pub write_completed-requires : goal.write_completed-requires
write_completed-requires c =
    let v = c.vectors_before-vectors.ensures in
    let q = c.requires in
    completed_fits _ _ _ _ _ q.0 q.1 q.2 (taken_is _ _ _ v c.payload_words.ensures) v c.whole_vectors-from.ensures c.whole_vectors-to.ensures

pub returns : goal.returns
returns c =
    let v = c.vectors_before-vectors.ensures in
    word_taken _ _ _ _ _ _ (taken_is _ _ _ v c.payload_words.ensures) v c.whole_vectors-from.ensures c.whole_vectors-to.ensures
    c.write_completed.ensures

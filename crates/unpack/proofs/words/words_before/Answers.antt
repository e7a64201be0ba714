use native.Mathlib.Nat.{add-zero, mod-lt}
use native.Mathlib.Omega.{arith}
use Rattle.unpack_rules.proofs.PayloadLaws.{few_elements}
use Rattle.unpack.proofs.ReadLaws.{words_short}
use Rattle.unpack.proofs.words.words_before.Goals as goal

pub nonzero_rem-over : goal.nonzero_rem-over
nonzero_rem-over c = rw c.elements-n.ensures (few_elements c.args.f).some

pub overflow_sub-result : goal.overflow_sub-result
overflow_sub-result c =
    let m = (few_elements c.args.f).some in
    let l = mod-lt c.args.k m in
    rw c.elements-n.ensures (omega arith)

pub returns-then-over-eq0 : goal.returns-then-over-eq0
returns-then-over-eq0 c = (rw (add-zero, ← c.elements-n.ensures) c.if-over-eq0.true, omega arith)

pub returns-else-over-eq0 : goal.returns-else-over-eq0
returns-else-over-eq0 c =
    let m = few_elements c.args.f in
    words_short _ c.elements-n.ensures m.some m.most c.if-over-eq0.false

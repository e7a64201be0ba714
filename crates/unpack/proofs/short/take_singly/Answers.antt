use mathlib.Core.Path.{refl, sym, ◌∙◌}
use Prim.Native.Nat.{◌<◌}
use native.Mathlib.Omega.{arith}
use Rattle.unpack_rules.proofs.WordsLaws.{words_more, words_none}
use Rattle.unpack.proofs.ShortLaws.{short_on}
use Rattle.unpack.proofs.short.take_singly.Goals as goal

pub loop-k-preserved : goal.loop-k-preserved
loop-k-preserved c =
    let p = c.requires in
    let i = c.loop-k.invariant in
    let h = c.loop-k-test.true in
    let held = rw c.word_at-word.ensures at c.held-rest.ensures in
    let d : 1 < c.loop-k.rest.due = let y = i.left in let n = p.1 in omega arith in
    let e = c.take_short.auto.data in
    let f = i.left in
    record {
      fits = rw held (short_on _ i.fits e d);
      sizes = e ∙ i.sizes;
      few = omega arith;
      left = rw held (omega arith);
      same = λ row g. rw held (words_more _ _ _ _ _ _ _ _ _ h refl (sym (rw c.word_at-word.ensures at (c.take_short.ensures.leaves row g)))) ∙ i.same row g;
    }

pub returns : goal.returns
returns c = record { leaves = λ row g. sym (c.loop-k.invariant.same row g) ∙ words_none _ _ _ _ _ _ _ _ _ c.loop-k-test.false }

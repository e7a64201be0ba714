use mathlib.Core.Path.{sym, ◌∙◌}
use native.Mathlib.Omega.{arith}
use lib.ListN.{length-set}
use Rattle.unpack.proofs.CopyLaws.{copied_more, copied_none}
use Rattle.unpack.proofs.copy.copy_words.Goals as goal

pub loop-j-preserved : goal.loop-j-preserved
loop-j-preserved c =
    record {
      sizes = simp length-set c.loop-j.invariant.sizes;
      few = omega arith;
      same = copied_more _ _ _ _ _ _ c.loop-j-test.true c.word_inside.ensures ∙ c.loop-j.invariant.same;
    }

pub returns : goal.returns
returns c = sym (copied_none _ _ _ _ _ _ c.loop-j-test.false) ∙ c.loop-j.invariant.same

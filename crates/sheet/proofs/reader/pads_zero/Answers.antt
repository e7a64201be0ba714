use Rattle.std.proofs.Common.{arith, sym, ◌∙◌, add-zero}
use native.Mathlib.Nat.{sub-zero}
use Rattle.sheet.proofs.PadLaws.{pads_more, pads_not, pads_end}
use Rattle.sheet.proofs.reader.pads_zero.Goals as goal

pub loop-j-init : goal.loop-j-init
loop-j-init c = rw (add-zero, sub-zero)

pub returns-then-not-zeros_at : goal.returns-then-not-zeros_at
returns-then-not-zeros_at c =
    sym (pads_not _ _ _ (omega arith) (sym c.zeros_at.ensures ∙ c.if-not-zeros_at.true)) ∙ c.loop-j.invariant

pub loop-j-preserved : goal.loop-j-preserved
loop-j-preserved c =
    pads_more _ _ _ _ _ (omega arith) (omega arith) (sym c.zeros_at.ensures ∙ c.if-not-zeros_at.false) ∙ c.loop-j.invariant

pub returns : goal.returns
returns c = sym (pads_end _ _ _ (omega arith)) ∙ c.loop-j.invariant

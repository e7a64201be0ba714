use Rattle.sheet.proofs.ActedLaws.{acted_fits}
use Rattle.sheet_builder.specs.declared.writer.Writer.{Writer}
use Rattle.sheet_builder.specs.WriteLaws.{write_fits}
use Rattle.sheet_builder.specs.Writing.{out, write_refusal}
use Rattle.sheet_builder.proofs.writer.tests.chain_of_a_sheet_that_fits.Goals as goal

pub invariant_of-act : goal.invariant_of-act
invariant_of-act g c =
    acted_fits (λ t (w : Writer). write_refusal t (out w.output.now w.to)) (λ rs w m h. write_fits rs _ m h) _ _ c.in_ok-sums.ensures c.in_ok-test.ensures

use Rattle.vif_codes.specs.Codes.{direct_quadwords}
use Rattle.fields.specs.Fields.{if}
use borrow.Author.Tests.{eq-eqb, ne_eqb}
use Rattle.vif_codes.proofs.decoding.quadwords_of.Goals as goal

pub returns-then-imm-eq0 : goal.returns-then-imm-eq0
unfolding direct_quadwords if
returns-then-imm-eq0 c = rw (eq-eqb _ _ c.if-imm-eq0.true)

pub returns-else-imm-eq0 : goal.returns-else-imm-eq0
unfolding direct_quadwords if
returns-else-imm-eq0 c = rw (ne_eqb _ _ c.if-imm-eq0.false)

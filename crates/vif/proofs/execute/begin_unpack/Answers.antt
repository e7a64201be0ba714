use mathlib.Core.Path.{sym}
use Rattle.fields.specs.Fields.{if}
use Rattle.fields.proofs.RefusalLaws.{refusal_not_none}
use Rattle.vif_codes.specs.Execute.{begin_unpack}
use Rattle.vif_codes.proofs.CodeLaws.{unpack_unfed, unpack_begun}
use Rattle.vif.proofs.ReadyLaws.{unfed_accepted}
use Rattle.vif.proofs.execute.begin_unpack.Goals as goal

pub returns-in-Err : goal.returns-in-Err
unfolding begin_unpack if
returns-in-Err c = λ log. rw (← c.in-Err.ensures, refusal_not_none c.in-Err.e, c.answered.ensures)

pub unfed_unpack-requires : goal.unfed_unpack-requires
unfed_unpack-requires c =
    let x = c.args in
    rw c.begun_unpack-begun.ensures
    (unfed_accepted x.which x.f x.u x.unit x.interrupt _ (sym c.in_default.ensures) c.requires c.if-unit-eq0.true)

pub returns-then-unit-eq0 : goal.returns-then-unit-eq0
returns-then-unit-eq0 c =
    λ log.
    let x = c.args in
    unpack_unfed x.which x.f x.u x.unit x.interrupt _ (sym c.in_default.ensures) _ log c.begun_unpack-begun.ensures c.if-unit-eq0.true (c.unfed_unpack.ensures log)

pub returns : goal.returns
returns c =
    λ log.
    let x = c.args in
    unpack_begun x.which x.f x.u x.unit x.interrupt _ (sym c.in_default.ensures) _ log c.begun_unpack-begun.ensures c.if-unit-eq0.false c.waits.ensures

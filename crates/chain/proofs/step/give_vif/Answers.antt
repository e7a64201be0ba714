use mathlib.Core.Path.{ap}
use Rattle.fields.specs.Fields.{if}
use Rattle.vif_codes.specs.VifAnswer.{vif_answer}
use Rattle.chain.specs.Inner.{by_taken}
use Rattle.chain.proofs.StepLaws.{word_as, quadword_as, stepped_as, vif_refuses, vif_gave, by_vif}
use Rattle.chain.proofs.step.give_vif.Goals as goal

pub returns-in-Ok-Word : goal.returns-in-Ok-Word
unfolding if
returns-in-Ok-Word c =
    let a = c.args in
    let w = c.in-Ok-Word in
    vif_gave c.requires.0 a.a a.tags (by_taken a.one a.four) c.incoming_at-next.ensures c.unit_of-which.ensures c.held_by-unit.ensures c.take-r.result c.take-r.ensures
    c.counts_in.ensures
    (by_vif (word_as w.is (rw w.is at w.field-0-is)) _ _ _ _ _ _ _
    (stepped_as c.completed.ensures _ (rw (c.with_pending.ensures, c.with_unit-after.ensures, c.of_unit-counts.ensures))))

pub returns-in-Ok-Quadword : goal.returns-in-Ok-Quadword
unfolding if
returns-in-Ok-Quadword c =
    let a = c.args in
    let w = c.in-Ok-Quadword in
    vif_gave c.requires.0 a.a a.tags (by_taken a.one a.four) c.incoming_at-next.ensures c.unit_of-which.ensures c.held_by-unit.ensures c.take-r.result c.take-r.ensures
    c.counts_in.ensures
    (by_vif (quadword_as w.is (rw w.is at w.field-0-is)) _ _ _ _ _ _ _
    (stepped_as c.completed-in-Ok-Quadword.ensures _ (rw (c.with_pending-in-Ok-Quadword.ensures, c.with_unit-after.ensures, c.of_unit-counts.ensures))))

pub returns-in-Err : goal.returns-in-Err
returns-in-Err c =
    vif_refuses c.requires.0 _ _ _ c.incoming_at-next.ensures c.unit_of-which.ensures c.held_by-unit.ensures c.take-r.result c.take-r.ensures
    (ap vif_answer c.in-Err.is) c.refused.ensures

use Rattle.fields.specs.Fields.{if}
use Rattle.fields.proofs.RefusalLaws.{refusal_not_none}
use Rattle.chain.specs.Tags.{tag_read}
use Rattle.chain.proofs.tags.take_tag.Goals as goal

pub returns-in-Ok : goal.returns-in-Ok
unfolding tag_read if
returns-in-Ok c =
    let t = c.new-tag.ensures in
    rw (← c.long_at.ensures, ← t.qwc, ← t.id, ← t.addr, ← t.spr, ← c.in-Ok.ensures, ← c.one_tag.ensures, ← c.accepted.ensures) c.completed.ensures

pub returns-in-Err : goal.returns-in-Err
unfolding tag_read if
returns-in-Err c =
    let t = c.new-tag.ensures in
    rw (← c.long_at.ensures, ← t.qwc, ← t.id, ← t.addr, ← t.spr, ← c.in-Err.ensures, refusal_not_none c.in-Err.refusal) c.refused.ensures

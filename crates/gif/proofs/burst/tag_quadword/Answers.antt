use mathlib.Core.Path.{◌∙◌, ap}
use native.Mathlib.Nat.{add-zero}
use Rattle.fields.specs.Counts.{one_if}
use Rattle.gif.proofs.BurstLaws.{tag_room, tag_taken}
use Rattle.gif.proofs.burst.tag_quadword.Goals as goal

pub append-requires : goal.append-requires
append-requires c =
    let x = c.args in
    tag_room x.log.now x.used _ c.tag_writes.ensures c.if-log-used.false

pub returns : goal.returns
returns c =
    let s = c.append.ensures in
    tag_taken c.requires.1.1 c.if-log-used.false (rw add-zero at c.quadword-quad.ensures) c.path_at_tag.ensures (c.one_if.ensures ∙ ap one_if c.tag_closes.ensures) c.tag_writes.ensures s.0 s.1

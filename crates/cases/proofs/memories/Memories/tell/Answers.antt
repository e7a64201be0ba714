use Rattle.std.proofs.Common.{◌++◌}
use Rattle.cases.specs.Changes.{word_changes, byte_changes, long_changes}
use Rattle.cases.proofs.Laws.{sent_append}
use Rattle.cases.proofs.memories.Memories.tell.Goals as goal

pub returns-clause-result_after : goal.returns-clause-result_after
returns-clause-result_after c =
    let a = c.args in
    let y = byte_changes a.self.now.code.now a.before.now.code.now in
    let z = long_changes a.self.now.log.now a.before.now.log.now in
    sent_append a.out.now (word_changes a.self.now.«data».now a.before.now.«data».now) (y ++ z) c.tell.ensures.changes
    (sent_append c.tell.new.out y z c.tell-2.ensures.changes c.tell-3.ensures.changes)

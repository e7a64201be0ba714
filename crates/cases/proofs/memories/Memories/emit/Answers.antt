use Rattle.std.proofs.Common.{◌++◌}
use Rattle.cases.specs.Memories.{bytes_words, longs_words}
use Rattle.wire.proofs.Laws.{ones}
use Rattle.cases.proofs.Laws.{sent_append, twos}
use Rattle.cases.proofs.memories.Memories.emit.Goals as goal

pub returns : goal.returns
returns c =
    let a = c.args in
    let b = bytes_words a.self.now.code.now in
    let l = longs_words a.self.now.log.now in
    sent_append a.out.now a.self.now.«data».now (b ++ l) (rw ones at c.emit_all.ensures)
    (sent_append c.emit_all.new.self b l c.emit_bytes.ensures (rw twos at c.emit_all-2.ensures))

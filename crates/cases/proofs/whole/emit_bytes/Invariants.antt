use Rattle.wire.specs.Words.{sent}
use Rattle.cases.specs.Memories.{ruled_from, byte_word}
use Rattle.cases.specs.Changes.{words_in}
use Rattle.cases.proofs.Laws.{Sending}
use Rattle.cases.proofs.whole.emit_bytes.Given as goal

abbrev pub invariant-loop-k : goal.invariant-loop-k
invariant-loop-k l =
    Sending (ruled_from (byte_word l.memory)) (words_in l.memory) l.initial.out (sent l.out.out l.at) l.k

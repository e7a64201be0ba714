use Rattle.cases.specs.Memories.{word_from}
use Rattle.cases.proofs.Laws.{Storing}
use Rattle.cases.proofs.input.read_words.Given as goal

abbrev pub invariant-loop-i : goal.invariant-loop-i
invariant-loop-i l = Storing (word_from l.bytes l.at) l.initial.words l.words l.i

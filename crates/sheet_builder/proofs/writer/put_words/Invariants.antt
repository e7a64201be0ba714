use Rattle.std.proofs.Common.{◌≡◌, ◌+◌, ◌*◌, drop}
use Rattle.std.proofs.lemmas.List.Edits.{sets}
use Rattle.sheet.specs.Layout.{words_bytes}
use Rattle.sheet_builder.proofs.writer.put_words.Given as goal

-- the words so far are written; the others make the whole
abbrev pub invariant-loop-word : goal.invariant-loop-word
invariant-loop-word l =
    record {
      to_is : l.to ≡ l.at + 4 * l.word-index;
      same : sets l.output l.to (words_bytes (drop l.word-index l.words)) ≡ sets l.initial.output l.at (words_bytes l.words);
    }

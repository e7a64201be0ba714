use Rattle.std.proofs.Common.{◌∙◌, arith}
use Rattle.wire.proofs.Laws.{word_out, word_in}
use Rattle.wire.proofs.word_at.Goals.{else-bytes-ge4-via-then-bytes-ge4+else-at-bytes, else-bytes-ge4-via-else-bytes-ge4}
use Rattle.wire.proofs.word_at.Goals as goal

pub returns-then-at-bytes : goal.returns-then-at-bytes
returns-then-at-bytes c = c.from_le_bytes.ensures ∙ word_in c.args.bytes.now c.args.at (omega arith)

pub returns : goal.returns
returns c =
    word_out c.args.bytes.now c.args.at
    (elim c.else-bytes-ge4.branch [ else-bytes-ge4-via-then-bytes-ge4+else-at-bytes w ↦ omega arith | else-bytes-ge4-via-else-bytes-ge4 w ↦ omega arith ])

use Rattle.std.proofs.Common.{arith}
use Rattle.wire.proofs.Laws.{stored_out, stored_in}
use Rattle.wire.proofs.put_word.Goals.{else-bytes-ge4-via-then-bytes-ge4+else-at-bytes, else-bytes-ge4-via-else-bytes-ge4}
use Rattle.wire.proofs.put_word.Goals as goal

pub returns-then-at-bytes : goal.returns-then-at-bytes
returns-then-at-bytes c =
    rw (c.copy_from_slice.ensures.after, c.to_le_bytes.ensures) (stored_in c.args.bytes.now c.args.at c.args.x c.ranges.x.fits (omega arith))

pub returns-else-bytes-ge4 : goal.returns-else-bytes-ge4
returns-else-bytes-ge4 c =
    stored_out c.args.bytes.now c.args.at c.args.x
    (elim c.else-bytes-ge4.branch [ else-bytes-ge4-via-then-bytes-ge4+else-at-bytes w ↦ omega arith | else-bytes-ge4-via-else-bytes-ge4 w ↦ omega arith ])

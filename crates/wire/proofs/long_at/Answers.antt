use Rattle.std.proofs.Common.{sym, ◌+◌, arith}
use Rattle.wire.proofs.Laws.{word_out}
use Rattle.wire.proofs.long_at.Goals as goal

pub returns-in-None : goal.returns-in-None
returns-in-None c =
    let low = word_out c.args.bytes.now c.args.at (omega (arith, c.in-None.ensures, c.type_inv.bytes)) in
    let high = word_out c.args.bytes.now (c.args.at + 4) (omega (arith, c.in-None.ensures, c.type_inv.bytes)) in
    rw (sym low, sym high)

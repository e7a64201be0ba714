use Rattle.state_block.proofs.WordLaws.{then_none}
use Rattle.state_block.proofs.UnitLaws.{no_interrupt, no_usn, no_mask, no_format_read, unpack_read}
use Rattle.state_block.proofs.unit.unpack_in_block.Goals as goal

pub returns-in_err-bit_in : goal.returns-in_err-bit_in
returns-in_err-bit_in c = rw c.from_residual.ensures (no_usn c.args.block.now (then_none _ _ c.in_err-bit_in.ensures))

pub returns-in_err-bit_in-2 : goal.returns-in_err-bit_in-2
returns-in_err-bit_in-2 c = rw c.from_residual-in_err-bit_in-2.ensures (no_mask c.args.block.now (then_none _ _ c.in_err-bit_in-2.ensures))

pub returns-in_err-bit_in-3 : goal.returns-in_err-bit_in-3
returns-in_err-bit_in-3 c = rw c.from_residual-in_err-bit_in-3.ensures (no_interrupt c.args.block.now (then_none _ _ c.in_err-bit_in-3.ensures))

pub returns-in_err-format : goal.returns-in_err-format
returns-in_err-format c = rw c.from_residual-in_err-format.ensures (no_format_read c.args.block.now c.in_err-format.ensures)

pub returns : goal.returns
returns c =
    unpack_read c.args.block.now c.in_ok-bit_in.ensures c.in_ok-bit_in-2.ensures c.in_ok-bit_in-3.ensures c.in_ok-format.ensures

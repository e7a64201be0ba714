use Rattle.std.proofs.Common.{refl}
use Rattle.state_block.proofs.WordLaws.{then_none}
use Rattle.state_block.proofs.UnitLaws.{no_bit_8, no_bit_10, none_waits, unit_read}
use Rattle.state_block.proofs.unit.unit_in_words.Goals as goal

pub returns-in_err-bit_in : goal.returns-in_err-bit_in
returns-in_err-bit_in c = rw c.from_residual.ensures (no_bit_8 c.args.block.now (then_none _ _ c.in_err-bit_in.ensures))

pub returns-in_err-bit_in-2 : goal.returns-in_err-bit_in-2
returns-in_err-bit_in-2 c = rw c.from_residual-in_err-bit_in-2.ensures (no_bit_10 c.args.block.now (then_none _ _ c.in_err-bit_in-2.ensures))

pub returns-in_err-waiting_in_block : goal.returns-in_err-waiting_in_block
returns-in_err-waiting_in_block c =
    rw c.from_residual-in_err-waiting_in_block.ensures (none_waits c.args.block.now (then_none _ _ c.in_err-waiting_in_block.ensures))

pub returns : goal.returns
returns c = unit_read c.args.block.now c.in_ok-bit_in.ensures c.in_ok-bit_in-2.ensures c.in_ok-waiting_in_block.ensures refl

use Rattle.std.proofs.Common.{arith}
use Rattle.fields.specs.Fields.{if}
use Rattle.state_block.specs.Words.{numbered}
use Rattle.state_block.specs.UnitBlock.{waitings, waiting_in_block}
use Rattle.state_block.proofs.WordLaws.{then_none, then_is}
use Rattle.state_block.proofs.UnitLaws.{nothing_read, bit_missing, waits_missing}
use Rattle.state_block.proofs.unit.waiting_in_block.Goals as goal

pub returns-then-block-eq0 : goal.returns-then-block-eq0
returns-then-block-eq0 c = nothing_read c.args.block.now c.if-block-eq0.true

pub returns-in_err-interrupt : goal.returns-in_err-interrupt
returns-in_err-interrupt c =
    rw c.from_residual.ensures (bit_missing c.args.block.now c.if-block-eq0.false (then_none _ _ c.in_err-interrupt.ensures))

pub returns-in-1 : goal.returns-in-1
unfolding waiting_in_block waitings numbered if
returns-in-1 c =
    let x = then_is _ _ _ c.in_ok-interrupt.ensures in
    rw (c.then_some.ensures, c.in-1.is, x.0, x.1)

pub returns-in-2 : goal.returns-in-2
unfolding waiting_in_block waitings numbered if
returns-in-2 c =
    let x = then_is _ _ _ c.in_ok-interrupt.ensures in
    rw (c.in-2.is, x.0, x.1)

pub returns-in-3 : goal.returns-in-3
unfolding waiting_in_block waitings numbered if
returns-in-3 c =
    let x = then_is _ _ _ c.in_ok-interrupt.ensures in
    rw (c.in-3.is, x.0, x.1)

pub returns-in-4 : goal.returns-in-4
unfolding waiting_in_block waitings numbered if
returns-in-4 c =
    let x = then_is _ _ _ c.in_ok-interrupt.ensures in
    rw (c.in-4.is, x.0, x.1)

pub returns-in-5 : goal.returns-in-5
unfolding waiting_in_block waitings numbered if
returns-in-5 c =
    let x = then_is _ _ _ c.in_ok-interrupt.ensures in
    rw (c.in-5.is, x.0, x.1)

pub returns-in-6 : goal.returns-in-6
unfolding waiting_in_block waitings numbered if
returns-in-6 c =
    let x = then_is _ _ _ c.in_ok-interrupt.ensures in
    rw (c.in-6.is, x.0, x.1)

pub returns-in-7 : goal.returns-in-7
unfolding waiting_in_block waitings numbered if
returns-in-7 c = rw (c.unpack_in_block.ensures, c.in-7.is)

pub returns-in_default : goal.returns-in_default
returns-in_default c = waits_missing c.args.block.now (omega arith)

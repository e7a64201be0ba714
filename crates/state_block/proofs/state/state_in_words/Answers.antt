use Rattle.state_block.specs.StateBlock.{held_state}
use Rattle.state_block.proofs.WordLaws.{then_none}
use Rattle.state_block.proofs.StateLaws.{chain_missing, vif1_missing, path2_missing, path3_missing, vif0_missing, no_bit_2, no_bit_3, no_depth, no_bit_7, state_is}
use Rattle.state_block.proofs.state.state_in_words.Goals as goal

pub returns-in_err-bit_in : goal.returns-in_err-bit_in
returns-in_err-bit_in c =
    rw c.from_residual.ensures (chain_missing c.args.block.now (no_bit_2 c.args.block.now (then_none _ _ c.in_err-bit_in.ensures)))

pub returns-in_err-bit_in-2 : goal.returns-in_err-bit_in-2
returns-in_err-bit_in-2 c =
    rw c.from_residual-in_err-bit_in-2.ensures (chain_missing c.args.block.now (no_bit_3 c.args.block.now (then_none _ _ c.in_err-bit_in-2.ensures)))

pub returns-in_err-stack_in_words : goal.returns-in_err-stack_in_words
returns-in_err-stack_in_words c =
    rw c.from_residual-in_err-stack_in_words.ensures (chain_missing c.args.block.now (no_depth c.args.block.now (then_none _ _ c.in_err-stack_in_words.ensures)))

pub returns-in_err-bit_in-3 : goal.returns-in_err-bit_in-3
returns-in_err-bit_in-3 c =
    rw c.from_residual-in_err-bit_in-3.ensures (chain_missing c.args.block.now (no_bit_7 c.args.block.now (then_none _ _ c.in_err-bit_in-3.ensures)))

pub returns-in_err-unit_in_block : goal.returns-in_err-unit_in_block
returns-in_err-unit_in_block c =
    rw c.from_residual-in_err-unit_in_block.ensures (vif1_missing c.args.block.now (then_none _ _ c.in_err-unit_in_block.ensures))

pub returns-in_err-path_in_block : goal.returns-in_err-path_in_block
returns-in_err-path_in_block c =
    rw c.from_residual-in_err-path_in_block.ensures (path2_missing c.args.block.now (then_none _ _ c.in_err-path_in_block.ensures))

pub returns-in_err-path_in_block-2 : goal.returns-in_err-path_in_block-2
returns-in_err-path_in_block-2 c =
    rw c.from_residual-in_err-path_in_block-2.ensures (path3_missing c.args.block.now (then_none _ _ c.in_err-path_in_block-2.ensures))

pub returns-in_err-unit_in_block-2 : goal.returns-in_err-unit_in_block-2
returns-in_err-unit_in_block-2 c =
    rw c.from_residual-in_err-unit_in_block-2.ensures (vif0_missing c.args.block.now (then_none _ _ c.in_err-unit_in_block-2.ensures))

pub returns : goal.returns
unfolding held_state
returns c =
    state_is c.args.block.now c.in_ok-bit_in.ensures c.in_ok-bit_in-2.ensures c.in_ok-stack_in_words.ensures c.in_ok-bit_in-3.ensures c.in_ok-unit_in_block.ensures
    c.in_ok-path_in_block.ensures c.in_ok-path_in_block-2.ensures c.in_ok-unit_in_block-2.ensures
    (rw (c.then_some.ensures, c.payload_in_words.ensures, c.used_in_words.ensures))

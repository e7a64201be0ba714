use Rattle.vif_codes.proofs.RangeLaws.{row_due, col_due, direct_due, directhl_due}
use Rattle.vif.proofs.ReadyLaws.{code_ready, mpg_ready, unpack_due}
use Rattle.vif.proofs.step.step.Goals as goal

pub code_word-requires : goal.code_word-requires
code_word-requires c =
    code_ready _ c.args.unit _ c.requires.ranged c.requires.fit.long

pub row_word-requires : goal.row_word-requires
row_word-requires c =
    row_due _ c.args.unit c.requires.ranged c.in-RowDue.is

pub col_word-requires : goal.col_word-requires
col_word-requires c =
    col_due _ c.args.unit c.requires.ranged c.in-ColDue.is

pub mpg_step-requires : goal.mpg_step-requires
mpg_step-requires c =
    mpg_ready _ c.args.unit c.requires.ranged c.in-MpgDue.is _ c.requires.fit.wide

pub overflow_sub-rest : goal.overflow_sub-rest
overflow_sub-rest c =
    (direct_due _ c.args.unit c.requires.ranged c.in-DirectDue.is).0

pub overflow_sub-rest-in-DirecthlDue : goal.overflow_sub-rest-in-DirecthlDue
overflow_sub-rest-in-DirecthlDue c =
    (directhl_due _ c.args.unit c.requires.ranged c.in-DirecthlDue.is).0

pub unpack_word-requires : goal.unpack_word-requires
unpack_word-requires c =
    unpack_due _ c.args.unit c.requires.ranged c.in-UnpackDue.is _ c.requires.fit.long

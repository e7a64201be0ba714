use Rattle.vif_codes.proofs.RangeLaws.{row_due, col_due}
use Rattle.vif.proofs.ReadyLaws.{mpg_ready, unpack_due}
use Rattle.vif.proofs.CodesLaws.{ahead_is, one_word, mask_leads, row_leads, col_leads}
use Rattle.vif.proofs.codes.payload_words.Goals as goal

pub row_word-requires : goal.row_word-requires
row_word-requires c =
    row_due _ c.args.unit c.requires.ranged c.in-RowDue.is

pub col_word-requires : goal.col_word-requires
col_word-requires c =
    col_due _ c.args.unit c.requires.ranged c.in-ColDue.is

pub mpg_words-requires : goal.mpg_words-requires
mpg_words-requires c =
    let h = c.requires in
    let q = c.in-MpgDue.is in
    let a = ahead_is _ _ _ q h.ahead in
    (q, mpg_ready _ c.args.unit h.ranged q _ h.wide, a.1, a.0, h.near, h.lies)

pub unpack_payload-requires : goal.unpack_payload-requires
unpack_payload-requires c =
    let h = c.requires in
    let q = c.in-UnpackDue.is in
    (q, unpack_due _ c.args.unit h.ranged q _ h.long, ahead_is _ _ _ q h.ahead, h.near)

pub returns-in-MaskDue : goal.returns-in-MaskDue
returns-in-MaskDue c =
    λ p used log.
    let h = c.requires in
    let q = c.in-MaskDue.is in
    let a = ahead_is _ _ _ q h.ahead in
    one_word a.0 (mask_leads _ _ _ _ p used _ c.word_at.ensures a.1 q c.mask_word.ensures)

pub returns-in-RowDue : goal.returns-in-RowDue
returns-in-RowDue c =
    λ p used log.
    let h = c.requires in
    let q = c.in-RowDue.is in
    let a = ahead_is _ _ _ q h.ahead in
    one_word a.0 (row_leads _ _ _ _ p used _ c.word_at-in-RowDue.ensures a.1 q c.row_word.ensures)

pub returns-in-ColDue : goal.returns-in-ColDue
returns-in-ColDue c =
    λ p used log.
    let h = c.requires in
    let q = c.in-ColDue.is in
    let a = ahead_is _ _ _ q h.ahead in
    one_word a.0 (col_leads _ _ _ _ p used _ c.word_at-in-ColDue.ensures a.1 q c.col_word.ensures)

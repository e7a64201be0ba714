use Rattle.totals.proofs.ShareLaws.{share_empty, divisor_some, share_divided}
use Rattle.totals.proofs.sharing.nop_share.Goals as goal

pub returns-then-totals-eq0 : goal.returns-then-totals-eq0
returns-then-totals-eq0 c = share_empty _ _ c.if-totals-eq0.true

pub nonzero_div-result : goal.nonzero_div-result
nonzero_div-result c = divisor_some c.if-totals-eq0.false c.greatest_divisor-d.ensures

pub nonzero_div-result-2 : goal.nonzero_div-result-2
nonzero_div-result-2 c = divisor_some c.if-totals-eq0.false c.greatest_divisor-d.ensures

pub returns : goal.returns
returns c = share_divided c.if-totals-eq0.false c.greatest_divisor-d.ensures

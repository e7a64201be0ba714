use Rattle.state_block.proofs.WordLaws.{then_none, chunk_length}
use Rattle.state_block.proofs.PathLaws.{none_long, idle_read, no_tag_read, tag_read, not_held, no_bit, no_format}
use Rattle.state_block.proofs.path.path_in_block.Goals as goal

pub returns-in_err-q : goal.returns-in_err-q
returns-in_err-q c = rw c.from_residual.ensures (none_long _ c.in_err-q.ensures.cases)

pub returns-then-held-eq0 : goal.returns-then-held-eq0
returns-then-held-eq0 c =
    let w = c.in_ok-q.ensures.cases in
    rw (← w.same) (idle_read _ (chunk_length w) c.if-held-eq0.true)

pub returns-then-held-ne1 : goal.returns-then-held-ne1
returns-then-held-ne1 c =
    let w = c.in_ok-q.ensures.cases in
    rw (← w.same) (no_tag_read _ (chunk_length w) c.if-held-eq0.false (not_held _ c.if-held-ne1.true))

pub returns-in_err-bit_in : goal.returns-in_err-bit_in
returns-in_err-bit_in c =
    let w = c.in_ok-q.ensures.cases in
    rw (c.from_residual-in_err-bit_in.ensures, ← w.same)
    (no_tag_read _ (chunk_length w) c.if-held-eq0.false (no_bit _ (then_none _ _ c.in_err-bit_in.ensures)))

pub returns-in_err-tag_format_numbered : goal.returns-in_err-tag_format_numbered
returns-in_err-tag_format_numbered c =
    let w = c.in_ok-q.ensures.cases in
    rw (c.from_residual-in_err-tag_format_numbered.ensures, ← w.same)
    (no_tag_read _ (chunk_length w) c.if-held-eq0.false (no_format _ (then_none _ _ c.in_err-tag_format_numbered.ensures)))

pub returns : goal.returns
returns c =
    let w = c.in_ok-q.ensures.cases in
    rw (← w.same) (tag_read _ (chunk_length w) c.if-held-ne1.false c.in_ok-bit_in.ensures c.in_ok-tag_format_numbered.ensures c.joined.ensures)

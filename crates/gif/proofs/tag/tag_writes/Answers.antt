use Rattle.std.proofs.Common.{ne_eqb}
use borrow.Author.Rules.{rules}
use Rattle.gif.specs.Tag.{tag_writes, format_of}
use Rattle.gif.proofs.TagLaws.{nloop_at, pre_at, prim_at, flg_at, not_packed}
use Rattle.fields.specs.Fields.{if}
use Rattle.gif.proofs.tag.tag_writes.Goals as goal
use Rattle.gif.proofs.tag.tag_writes.Goals.{else-has_data-via-then-has_data+then-pre+else-quad-eq0, else-has_data-via-then-has_data+else-pre, else-has_data-via-else-has_data}

pub returns-then-quad-eq0 : goal.returns-then-quad-eq0
unfolding tag_writes format_of if
returns-then-quad-eq0 c = let l = c.args.quad.low in let h = c.args.quad.high in
    simp (nloop_at l h (search rules), ne_eqb _ _ c.if-has_data.true, pre_at l h (search rules), c.if-pre.true, flg_at l h (search rules), c.if-quad-eq0.true, prim_at l h (search rules))

pub returns-else-has_data : goal.returns-else-has_data
unfolding tag_writes if
returns-else-has_data c = let l = c.args.quad.low in let h = c.args.quad.high in
    elim c.else-has_data.branch [
      | else-has_data-via-then-has_data+then-pre+else-quad-eq0 w ↦
          simp (nloop_at l h (search rules), ne_eqb _ _ w.if-has_data.true, pre_at l h (search rules), w.if-pre.true, flg_at l h (search rules), not_packed _ w.if-quad-eq0.false)
      | else-has_data-via-then-has_data+else-pre w ↦
          simp (nloop_at l h (search rules), ne_eqb _ _ w.if-has_data.true, pre_at l h (search rules), ne_eqb _ _ w.if-pre.false)
      | else-has_data-via-else-has_data w ↦ simp (nloop_at l h (search rules), w.if-has_data.false)
    ]

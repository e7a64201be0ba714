use mathlib.Core.Path.{sym, ◌∙◌}
use native.Mathlib.Omega.{arith}
use Rattle.unpack_rules.proofs.CycleLaws.{vectors_few, fill_next, payload_next}
use Rattle.unpack.proofs.cycle.vectors_after.Goals as goal

pub returns-then-is_fill : goal.returns-then-is_fill
returns-then-is_fill c =
    c.requires.1 ∙ sym (fill_next _ _ c.requires.0 _ (sym c.is_fill.ensures ∙ c.if-is_fill.true))

pub overflow_add-result : goal.overflow_add-result
overflow_add-result c =
    let v = vectors_few c.args.cl c.args.wl c.args.i in
    let e = c.requires.1 in
    let h = c.requires.2 in
    omega arith

pub returns-else-is_fill : goal.returns-else-is_fill
returns-else-is_fill c =
    let e = c.requires.1 in
    let n = payload_next c.args.cl c.args.wl c.requires.0 c.args.i (sym c.is_fill.ensures ∙ c.if-is_fill.false) in
    omega arith

use mathlib.Core.Path.{sym, ◌∙◌}
use borrow.Author.Tests.{lt-ltb, le-ltb}
use Rattle.unpack_rules.proofs.CycleLaws.{filling_done, plain_done}
use Rattle.unpack.proofs.cycle.writes_done.Goals as goal

pub returns-then-cl-wl : goal.returns-then-cl-wl
returns-then-cl-wl c =
    let p = c.requires in
    c.min.ensures ∙ sym (filling_done _ _ p.0.some (lt-ltb _ _ c.if-cl-wl.true) p.1 _ _)

pub returns-else-cl-wl : goal.returns-else-cl-wl
returns-else-cl-wl c = let p = c.requires in sym (plain_done _ _ p.0.some (le-ltb _ _ c.if-cl-wl.false) _ _ p.2)

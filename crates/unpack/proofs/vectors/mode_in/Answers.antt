use Rattle.fields.specs.Fields.{if}
use borrow.Author.Tests.{lt-ltb, le-ltb, le-leb, lt-leb}
use Rattle.unpack.proofs.vectors.mode_in.Goals as goal
use Rattle.unpack.proofs.vectors.mode_in.Goals.{else-cl-wl-via-then-cl-wl+else-cl-cycle, else-cl-wl-via-else-cl-wl}

pub returns-then-cl-cycle : goal.returns-then-cl-cycle
unfolding if
returns-then-cl-cycle c = rw (lt-ltb _ _ c.if-cl-wl.true, le-leb _ _ c.if-cl-cycle.true)

pub returns-else-cl-wl : goal.returns-else-cl-wl
unfolding if
returns-else-cl-wl c =
    elim c.else-cl-wl.branch [
      | else-cl-wl-via-then-cl-wl+else-cl-cycle w ↦ rw (lt-ltb _ _ w.if-cl-wl.true, lt-leb _ _ w.if-cl-cycle.false)
      | else-cl-wl-via-else-cl-wl w ↦ rw (le-ltb _ _ w.if-cl-wl.false)
    ]

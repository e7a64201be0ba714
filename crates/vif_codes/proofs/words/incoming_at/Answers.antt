use Rattle.vif_codes.specs.Words.{incoming_at}
use Rattle.fields.specs.Fields.{if}
use Prim.Native.Nat.{◌/◌, ◌%◌}
use native.Mathlib.Omega.{arith}
use borrow.Author.Tests.{ne_eqb}
use Rattle.vif_codes.proofs.words.incoming_at.Goals as goal

pub returns-in-0 : goal.returns-in-0
unfolding incoming_at if
returns-in-0 c = rw c.in-0.is c.quadword_at.ensures

pub returns-in-1 : goal.returns-in-1
unfolding incoming_at if
returns-in-1 c = rw (c.in-1.is, c.word_at.ensures)

pub returns-in-2 : goal.returns-in-2
unfolding incoming_at if
returns-in-2 c = rw (c.in-2.is, c.word_at-in-2.ensures)

pub returns-in_default : goal.returns-in_default
unfolding incoming_at if
returns-in_default c =
    let n = c.args.a / 4 % 4 in
    rw (ne_eqb n 0 (λ e. omega arith), ne_eqb n 1 (λ e. omega arith), ne_eqb n 2 (λ e. omega arith), c.word_at-in_default.ensures)

use native.Mathlib.Omega.{arith}
use borrow.Author.Tests.{ne_eqb}
use Rattle.fields.specs.Fields.{if}
use Rattle.chain.specs.Tags.{next_tadr}
use Rattle.chain.proofs.tags.Tag.next_tadr.Goals as goal

pub returns-in-1 : goal.returns-in-1
unfolding next_tadr if
returns-in-1 c = grind arith

pub returns-in-2 : goal.returns-in-2
unfolding next_tadr if
returns-in-2 c = grind arith

pub returns-in-6 : goal.returns-in-6
unfolding next_tadr if
returns-in-6 c = grind arith

pub returns-in-7 : goal.returns-in-7
unfolding next_tadr if
returns-in-7 c = grind arith

pub returns-in_default : goal.returns-in_default
unfolding next_tadr if
returns-in_default c =
    let i = c.args.self.id in
    rw (ne_eqb i 1 (omega arith), ne_eqb i 2 (grind arith), ne_eqb i 5 (grind arith), ne_eqb i 6 (omega arith), ne_eqb i 7 (omega arith))
